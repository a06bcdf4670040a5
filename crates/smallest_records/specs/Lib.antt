pub mod Smallest
pub mod Difference
