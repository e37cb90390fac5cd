-- What the queries answer.
pub mod Queries
