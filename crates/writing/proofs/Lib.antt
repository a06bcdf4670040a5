pub mod WrittenLaws
pub mod PieceLaws
pub mod StoredLaws
pub mod NumberLaws
pub mod FileLaws
pub mod WritableLaws
