-- What the queries read off a sound table.
pub mod Told
