pub mod Permutations
pub mod Joins
pub mod Entries
pub mod Walks
pub mod Groups
pub mod Said
