pub mod RowLaws
pub mod NarrowLaws
