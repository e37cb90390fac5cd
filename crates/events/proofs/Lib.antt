-- What holds of each event and of the table after it, from the bottom up.
pub mod Queues
pub mod Kept
pub mod Frame
pub mod Walk
pub mod Heir
pub mod Accepted
