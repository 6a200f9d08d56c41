pub mod Crews
pub mod Driven
pub mod Teams
