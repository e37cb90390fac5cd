-- What a reader has to believe of the listing.
pub mod Text
