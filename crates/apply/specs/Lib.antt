-- What an accepted event may count on and what it leaves, as the code goes about it.
pub mod Accepted
pub mod Stored
