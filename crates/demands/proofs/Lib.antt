-- The edges that document 01 marks.
pub mod Examples
-- What any calls lead to, from the bottom up.
pub mod Agrees
pub mod Same
pub mod Queries
pub mod Chosen
pub mod Carried
pub mod Rules
pub mod InMemory
pub mod Numbers
pub mod Reached
pub mod Balance
pub mod Counted
-- The demands, of any functions that do what the contracts say; and that there are such.
pub mod Demand1
pub mod Demand2
pub mod Demand3
pub mod TheCalls
-- The log's call, and that every accepted event is kept.
pub mod LogCall
pub mod Kept
-- The call that reads a log back.
pub mod Replay
pub mod ReplayCall
-- That the demands speak of the calls' own contracts, and of what these take.
pub mod Contracts
pub mod Types
-- How much the statements say.
pub mod Unique
pub mod Wrong
pub mod KeptUsed
pub mod ReplayWrong
pub mod ReplayUsed
pub mod OneTable
pub mod OneNumber
pub mod AnyTable
pub mod NothingFree
-- Demand 3 as it is used, and on an example.
pub mod Used
pub mod Played
pub mod Witness
-- The rule of V that was amended.
pub mod OldRule
