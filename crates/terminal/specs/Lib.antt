-- The tasks, starting a shipment, and adding a spare task.
pub mod Tasks
pub mod Start
pub mod Spare
