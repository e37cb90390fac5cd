-- Why the parts of the test make its answer, from the bottom up.
pub mod Bounded
pub mod Rules
pub mod Law
pub mod Passed
pub mod Verdict
pub mod Found
