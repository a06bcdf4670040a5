pub mod ViewLaws
pub mod NamedLaws
pub mod EmptyLaws
pub mod FirstSetLaws
