-- Who follows at a V, as the code goes about it.
pub mod Heir
