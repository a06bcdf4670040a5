pub mod AskedLaws
pub mod FitLaws
pub mod SeedLaws
pub mod BreakLaws
pub mod AvoidedLaws
pub mod PartLaws
pub mod FoundLaws
