pub mod SlotLaws
pub mod StoredLaws
pub mod AssociationLaws
pub mod AncestorSetLaws
pub mod TypeLaws
pub mod WithFieldLaws
pub mod ReaderLaws
