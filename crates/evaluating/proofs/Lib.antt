pub mod SideLaws
pub mod KnownLaws
pub mod FileLaws
pub mod DemandTwo
