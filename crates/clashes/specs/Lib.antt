pub mod Sources
pub mod Refuted
pub mod Clashes
pub mod Asked
