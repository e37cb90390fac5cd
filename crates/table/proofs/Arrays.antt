-- Arrays of numbers.
pub mod Bounds
pub mod Maxima
pub mod Filled
pub mod Places
