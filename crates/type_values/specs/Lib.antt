pub mod Bad
pub mod Named
pub mod Lacking
pub mod Tables
pub mod Numbers
pub mod Filled
pub mod Values
