-- Where chains of waiting lead, and the local law along them, over arrays: `waits` has what each thread waits for (16: nothing),
-- `holders` who holds each resource (32: nobody).
pub mod Marks
pub mod Ways
pub mod Law
