pub mod PossibleLaws
pub mod CompleteLaws
pub mod SoundLaws
pub mod FilledLaws
