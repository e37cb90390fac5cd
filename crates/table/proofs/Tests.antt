-- The definitions that compute are the table's definitions.
pub mod Reflect
pub mod Computed
pub mod Totals
pub mod Decided
