pub mod Doing
pub mod Walks
