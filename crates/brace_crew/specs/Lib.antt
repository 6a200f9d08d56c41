pub mod Benches
pub mod Came
pub mod Members
pub mod Workers
pub mod inner
