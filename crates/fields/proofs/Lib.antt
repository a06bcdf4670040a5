pub mod HeadLaws
pub mod NameLaws
pub mod RefusalLaws
