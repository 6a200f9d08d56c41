pub mod Fates
pub mod Settled
