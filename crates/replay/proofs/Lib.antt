pub mod CodeLaws
pub mod TurnLaws
pub mod GoingLaws
pub mod RowLaws
pub mod Demands
