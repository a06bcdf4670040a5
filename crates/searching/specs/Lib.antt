pub mod Answer
pub mod Ready
