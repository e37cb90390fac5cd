-- Precedences as numbers, the law that fixes the current ones, and who runs by them.
pub mod Numbers
pub mod Values
pub mod Ready
pub mod Lead
pub mod Runs
pub mod Known
