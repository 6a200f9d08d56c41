mod Examples
pub mod Blocks
pub mod Deeds
pub mod FaultLemmas
pub mod Folds
pub mod Gifts
pub mod LawEquations
mod LawfulExamples
mod LifeExamples
pub mod ValueEquations
pub mod RunLemmas
pub mod Simulation
pub mod WorldLemmas
pub mod TypeLemmas
pub mod WordLemmas
pub mod BlockLemmas
pub mod HeadLemmas
