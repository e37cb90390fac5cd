-- What is written piece by piece.
pub mod Pieces
