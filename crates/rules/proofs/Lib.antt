pub mod PredicateLaws
pub mod CompileLaws
pub mod KeyLaws
pub mod TypeLaws
pub mod HeadLaws
pub mod DemandTwo
pub mod JudgeLaws
pub mod CompiledLimits
