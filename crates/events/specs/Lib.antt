-- What each event makes of the table, and how many threads are worked out afresh.
pub mod Events
pub mod Count
-- What only the code and its proofs speak of.
pub mod Code
