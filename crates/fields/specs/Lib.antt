pub mod Field
pub mod Refusal
pub mod Slot
