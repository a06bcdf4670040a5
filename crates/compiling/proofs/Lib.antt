pub mod TableLaws
pub mod EntryLaws
pub mod GatherLaws
pub mod ByteLaws
