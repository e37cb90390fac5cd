-- What a P does to the places of a queue and to the numbers.
mod Walked
mod Rises
mod Joined
mod Work
