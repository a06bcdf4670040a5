pub mod Front
pub mod Passes
pub mod RowAt
pub mod Noted
pub mod Scan
