pub mod Small
pub mod Sound
pub mod Turns
