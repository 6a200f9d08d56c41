pub mod Differs
pub mod Outcome
pub mod inner
