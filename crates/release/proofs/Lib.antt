-- What a V does to the places of a queue and to the numbers, whoever follows.
mod MovedUp
mod Shift
mod Passed
mod Successor
mod Work
