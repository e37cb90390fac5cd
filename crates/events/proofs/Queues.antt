-- The places of a queue that is written anew.
pub mod Splice
pub mod Written
pub mod Queued
