pub mod Conversion
pub mod Fitting
