pub mod Areas
pub mod FirstFault
pub mod Lines
pub mod Nearness
pub mod Orders
pub mod PlanLemmas
pub mod Reading
pub mod Strips
