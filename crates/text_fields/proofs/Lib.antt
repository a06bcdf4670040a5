pub mod RoomLaws
pub mod UptoLaws
pub mod PartLaws
pub mod LoweredLaws
pub mod RoleLaws
pub mod EndLaws
pub mod PlaceLaws
pub mod ParentLaws
