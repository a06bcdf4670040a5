pub mod Kinds
pub mod Overlong
pub mod ValueNames
