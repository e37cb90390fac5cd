-- Why the step gives what specs/ says.
pub mod Answered
pub mod Clock
pub mod Stepped
