pub mod CheckLaws
pub mod SeenLaws
pub mod ReadingLaws
