pub mod EndLaws
pub mod SideLaws
pub mod WholeLaws
pub mod JudgedLaws
