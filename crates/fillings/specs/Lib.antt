pub mod Memory
pub mod Ordered
pub mod Witness
