-- What the demands speak of: memory, the calls, the kernel that makes them, and what its table and the answers tell.
pub mod Memory
pub mod Calls
pub mod Runs
pub mod Fixed
pub mod Told
pub mod Counted
-- The demands.
pub mod Demand1
pub mod Demand2
pub mod Demand3
-- What the contracts of the calls say, and functions that do it.
pub mod Contracts
pub mod Stated
-- The log's call, and the kernel that keeps its accepted events in a log.
pub mod Kept
-- The call that reads a log back.
pub mod Replay
