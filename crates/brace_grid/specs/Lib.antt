pub mod Grids
pub mod inner
