pub mod World
pub mod Growth
pub mod Demand
