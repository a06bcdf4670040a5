pub mod CallBytes
pub mod Operands
pub mod ReplyBytes
pub mod Puts
