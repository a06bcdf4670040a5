pub mod ChainLaws
pub mod SkipLaws
pub mod RowLaws
pub mod ColumnLaws
pub mod SingleLaws
pub mod MirrorLaws
pub mod WholeLaws
