-- What the contract of the log's call names.
pub mod Four
