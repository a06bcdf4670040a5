pub mod MemoryLaws
pub mod LegalLaws
pub mod LegalSize
