pub mod Empty
pub mod Slots
pub mod Represents
pub mod Places
pub mod Written
pub mod WithinTest
