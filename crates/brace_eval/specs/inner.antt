pub mod Tables
pub mod Walks
pub mod Updates
