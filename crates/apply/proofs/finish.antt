-- Laws of the end of an event.
mod Stored
mod Work
