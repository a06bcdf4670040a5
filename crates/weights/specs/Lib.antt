pub mod Sums
pub mod Numbers
pub mod Scales
pub mod Weigh
