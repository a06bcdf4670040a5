pub mod Replays
pub mod Turned
pub mod Demands
