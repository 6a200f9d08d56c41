pub mod Steps
pub mod Lengths
