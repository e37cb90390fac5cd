-- What a reader has to believe of the drill: groups of four bytes.
pub mod Drill
-- The same a byte at a time, as the code goes.
pub mod Bytes
pub mod Parts
