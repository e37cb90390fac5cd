-- Laws, from the bottom up; the theorems that the documents name are in Theorems, Edges, Changes, Balance and Demand3.
pub mod Decide
pub mod Order
pub mod Highest
pub mod Chains
pub mod Pigeons
pub mod LocalLaw
pub mod Walk
pub mod Lists
pub mod Graphs
pub mod Ways
pub mod Hops
pub mod Forest
pub mod Heir
pub mod Kept
pub mod Finite
pub mod Current
pub mod Topmost
pub mod Runner
pub mod Waiters
pub mod Theorems
pub mod Edges
pub mod Changes
pub mod Counting
pub mod Numbers
pub mod Balance
pub mod Spared
pub mod Demand3
-- Two examples on which the definitions of demand 3 can be checked.
pub mod Witness
-- An example on which the definitions of the totals can be checked.
pub mod TotalsExample
