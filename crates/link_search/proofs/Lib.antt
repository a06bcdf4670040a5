pub mod JudgeLaws
pub mod NetLaws
pub mod SeenLaws
pub mod AnyLaws
pub mod ColumnLaws
pub mod WholeLaws
