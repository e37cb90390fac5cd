-- What a reader has to believe of the program: what it prints of an input.
pub mod Listing
-- What only the proofs of the code speak of.
pub mod Code
