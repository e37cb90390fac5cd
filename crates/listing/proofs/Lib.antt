-- Laws of the listing, from the bottom up.
pub mod Decimals
pub mod Only
-- Lines that are worked out by computation.
pub mod Examples
