-- From an accepted record to the event that it names.
pub mod Named
pub mod Permitted
