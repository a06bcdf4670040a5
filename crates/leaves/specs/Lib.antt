pub mod Fitting
pub mod Arrays
