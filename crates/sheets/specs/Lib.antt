pub mod Named
pub mod NamedIn
pub mod RowsBy
pub mod LinesBy
pub mod MasksBy
