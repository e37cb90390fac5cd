-- That the calls for C take and state what those of crate `locktable` do.
pub mod Same
