pub mod SameLaws
pub mod CutLaws
