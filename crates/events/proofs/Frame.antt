-- What stays when one slot or one queue is written.
pub mod Slot
pub mod Queue
