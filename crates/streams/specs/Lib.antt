-- Which errors of the system pass.
pub mod Errors
