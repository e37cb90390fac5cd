-- What each part of the survey learns.
mod Cut
mod Standing
mod Sums
pub mod Turns
