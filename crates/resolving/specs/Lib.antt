pub mod Lookup
pub mod Stored
pub mod Resolves
