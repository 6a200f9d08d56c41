pub mod PartEquations
pub mod RangeLemmas
pub mod Sublists
pub mod Pruned
pub mod Numbers
pub mod Halves
pub mod Typed
pub mod LawfulParts
pub mod Runs
pub mod Sites
pub mod Traces
pub mod Inverting
pub mod Nearness
pub mod Owners
pub mod Outward
pub mod Heard
pub mod Kept
mod Examples
