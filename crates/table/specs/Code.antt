-- What only the code and its proofs speak of.
pub mod Places
pub mod Shape
pub mod Ready
pub mod Tracks
