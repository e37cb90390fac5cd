-- The local law along them.
pub mod Maxima
pub mod Children
