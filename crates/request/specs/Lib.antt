-- The walk of a P as the code goes about it.
pub mod Climb
