pub mod Lined
pub mod Coherent
pub mod Kept
pub mod Asked
pub mod Tables
pub mod Renumbered
