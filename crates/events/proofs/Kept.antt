-- Soundness is kept.
pub mod Shapes
pub mod Slots
pub mod Queues
pub mod Totals
pub mod Tabulate
pub mod Unstored
pub mod Settled
pub mod Stays
