-- What holds of any table that its type holds, and of one that is sound, or sound but for its stored current precedences.
pub mod Typed
pub mod Queues
pub mod Order
pub mod Read
pub mod Empty
