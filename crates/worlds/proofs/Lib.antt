pub mod RenumberLaws
pub mod BlindLaws
pub mod BringLaws
