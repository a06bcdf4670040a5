pub mod Table
pub mod Compiled
