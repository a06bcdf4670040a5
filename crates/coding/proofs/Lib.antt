pub mod OperandLaws
pub mod CallLaws
pub mod PutLaws
pub mod ReplyLaws
