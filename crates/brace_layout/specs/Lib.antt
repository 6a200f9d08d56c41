pub mod Unplaced
pub mod Formatted
