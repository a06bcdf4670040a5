pub mod OwnLaws
pub mod TableLaws
pub mod BelongLaws
pub mod CodedLaws
