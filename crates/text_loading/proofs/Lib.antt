pub mod ManyLaws
pub mod ReadLaws
pub mod ReplyLaws
