pub mod Forms
pub mod Avoided
