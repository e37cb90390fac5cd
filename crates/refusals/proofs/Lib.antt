-- Laws of the refusals.
pub mod Tests
pub mod Given
