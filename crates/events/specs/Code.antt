-- What only the code and its proofs speak of.
pub mod Permits
pub mod Rows
pub mod Work
