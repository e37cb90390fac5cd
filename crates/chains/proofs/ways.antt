-- Where chains of waiting lead.
pub mod Steps
pub mod Next
pub mod Chain
pub mod Climbs
