pub mod CodeLaws
pub mod LinkLaws
pub mod ValueLaws
pub mod StandingLaws
