pub mod SoughtLaws
pub mod ReadyLaws
pub mod CompareLaws
