-- The walk of a P, from holder to holder.
pub mod Steps
pub mod Sixteen
