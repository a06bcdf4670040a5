pub mod Sought
pub mod Compared
