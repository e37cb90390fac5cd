-- What each test tells, and how the code comes by it.
pub mod Tells
pub mod Leads
pub mod Queues
