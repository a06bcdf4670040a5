pub mod Bench
pub mod Effect
pub mod Step
pub mod Row
pub mod HandedOut
pub mod Demands
pub mod BenchCases
