pub mod Nets
pub mod Families
pub mod Answers
