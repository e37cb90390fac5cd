-- The terminal's calls, what their contracts say, and the kernel that makes them.
pub mod Calls
pub mod Shipped
-- What the calls leave, the order of the fixed tasks, and the draw task's theorem.
pub mod Fixed
pub mod Ships
pub mod Order
pub mod Draw
