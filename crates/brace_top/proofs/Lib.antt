pub mod SettleLemmas
pub mod CameLemmas
pub mod LinkLemmas
pub mod TrialEnds
