pub mod Stored
pub mod Loads
pub mod WithField
