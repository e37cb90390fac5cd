-- Laws of Create, Exit and Set.
mod Work
