pub mod Scans
pub mod Digits
pub mod Standing
pub mod Lengths
pub mod Rows
pub mod Heads
pub mod Unique
pub mod Named
