-- What a reader has to believe of the table.
pub mod Table
pub mod Sound
-- What an event leaves in a slot.
pub mod Slots
-- The same definitions as tests and values that compute.
pub mod Compute
-- What only the code and its proofs speak of.
pub mod Code
