pub mod Parts
pub mod PartsProp
pub mod View
pub mod Calls
pub mod Runs
pub mod Demands
