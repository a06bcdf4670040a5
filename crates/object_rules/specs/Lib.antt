pub mod TypesIn
pub mod ValuesIn
pub mod LinksIn
