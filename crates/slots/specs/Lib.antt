-- What a table's slots keep to, place by place.
pub mod Slots
