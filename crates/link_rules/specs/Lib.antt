pub mod LinksIn
pub mod WholesIn
pub mod Judged
