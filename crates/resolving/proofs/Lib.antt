pub mod PlaceLaws
pub mod LookupLaws
pub mod StoreLaws
pub mod ValueLaws
pub mod LinkLaws
pub mod StoredLaws
pub mod TakeLaws
pub mod ReadLaws
