mod Cases
pub mod Lists
pub mod Turns
pub mod Owners
pub mod ActorTurns
pub mod Counted
pub mod Runs
pub mod Progress
pub mod CoreLaw
pub mod Fronts
pub mod LaneLemmas
pub mod Calls
pub mod Lawful
pub mod Counts
pub mod Starts
pub mod ActorLemmas
pub mod OrderLemmas
pub mod SmallLawful
