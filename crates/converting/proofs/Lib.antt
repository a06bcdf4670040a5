pub mod HeldLaws
pub mod PartLaws
pub mod LoopLaws
pub mod FittingLaws
pub mod ConversionLaws
