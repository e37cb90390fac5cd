-- Which refusals apply, in words: what a reader has to believe.
pub mod Applies
-- The same as one list of tests that compute.
pub mod Refusals
-- The numbers of the kinds and of the reasons.
pub mod Numbers
