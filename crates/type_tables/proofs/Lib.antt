pub mod PassedLaws
pub mod EndLaws
pub mod LimitLaws
pub mod StoredLaws
pub mod DueInLaws
pub mod EndStepLaws
pub mod EndAtLaws
pub mod TypePlaceLaws
