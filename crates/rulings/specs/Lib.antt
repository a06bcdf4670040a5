pub mod Shaped
pub mod Ruled
