pub mod SuffixLaws
pub mod WalkLaws
pub mod OutlinedLaws
