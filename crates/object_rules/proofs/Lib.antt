pub mod OwnSlotLaws
pub mod TypeLaws
pub mod ValueLaws
pub mod LinkLaws
