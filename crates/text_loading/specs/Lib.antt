pub mod LoadsText
pub mod Read
