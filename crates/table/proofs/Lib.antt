-- Laws of the table, from the bottom up.
pub mod Arrays
pub mod Tests
pub mod Sound
pub mod Values
