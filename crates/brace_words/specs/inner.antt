pub mod Bare
pub mod Getters
