pub mod Tables
pub mod Reads
pub mod Depth
pub mod Refusals
pub mod inner
