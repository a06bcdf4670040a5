pub mod View
pub mod Held
pub mod Empty
pub mod HeldProp
pub mod FirstSets
