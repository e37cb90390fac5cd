-- Laws of the drill, from the bottom up.
pub mod Next
pub mod Parts
pub mod Whole
pub mod Groups
