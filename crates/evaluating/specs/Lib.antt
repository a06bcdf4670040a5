pub mod Named
pub mod Evaluates
