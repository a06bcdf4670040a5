pub mod Ends
pub mod Sort
