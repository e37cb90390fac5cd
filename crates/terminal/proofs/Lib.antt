-- The rule of the priorities, the table that a shipment starts with, and the answers to a spare task.
pub mod Falling
pub mod Started
pub mod Order
pub mod Spared
