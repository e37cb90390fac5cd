-- Sets of threads as words.
pub mod Bits
