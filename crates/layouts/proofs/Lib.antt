pub mod NamesLaws
pub mod ChainLaws
pub mod LimitLaws
