-- The state that a start leads to, and the terminal's calls as calls of the lock table.
pub mod Tasks
pub mod AsCalls
-- What the contracts of the calls say.
pub mod Contracts
-- The theorems.
pub mod Fixed
pub mod Ships
pub mod Order
pub mod Draw
-- That they can be met, how they are used, and what they rule out.
pub mod TheTerminal
pub mod Used
pub mod Witness
pub mod Wrong
