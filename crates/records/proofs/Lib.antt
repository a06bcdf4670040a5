pub mod WithinLaws
pub mod SlotLaws
pub mod RankLaws
pub mod PlaceLaws
pub mod WrittenLaws
pub mod EmptyLaws
