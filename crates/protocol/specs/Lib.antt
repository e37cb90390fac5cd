-- What a reader has to believe: document 000's section 2, and what sections 3 and 4 and demand 3 speak of.
pub mod Sets
pub mod Events
pub mod Graph
pub mod Schedule
pub mod Rules
pub mod Ways
pub mod Demand3
pub mod Totals
pub mod Notions
pub mod Children
pub mod Changes
pub mod Rank
