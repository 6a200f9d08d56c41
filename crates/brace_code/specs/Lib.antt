pub mod Codes
pub mod Columns
pub mod inner
pub mod Lanes
pub mod RowLists
