-- Which number is given, and what holds where none is.
pub mod Lowest
pub mod Parts
pub mod Formed
pub mod Exactly
pub mod Passed
