pub mod Counts
pub mod MemShelves
pub mod MemSinks
pub mod Shelves
pub mod Sinks
pub mod inner
