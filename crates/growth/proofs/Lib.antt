pub mod FullLaws
pub mod SeedLaws
