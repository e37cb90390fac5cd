-- Where the records that are applied stand, and what is printed of them.
pub mod Standing
pub mod Printed
-- What the program prints of an input.
pub mod Listings
pub mod Kept
