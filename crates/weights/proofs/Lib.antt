pub mod SumLaws
pub mod BalanceLaws
pub mod NumberLaws
pub mod LackLaws
pub mod OwnLaws
pub mod FairLaws
pub mod ScaleLaws
