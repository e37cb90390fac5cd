-- What the step answers.
pub mod Answers
-- What only the code and its proofs speak of.
pub mod Code
