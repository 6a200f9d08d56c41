pub mod Drafts
pub mod HostStages
pub mod MemStages
