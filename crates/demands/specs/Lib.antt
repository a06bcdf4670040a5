pub mod Wishes
pub mod Families
