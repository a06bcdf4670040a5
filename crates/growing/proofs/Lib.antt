pub mod GrowthLaws
pub mod SplitLaws
pub mod DemandLaws
