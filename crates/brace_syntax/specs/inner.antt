pub mod Cursor
pub mod Descent
pub mod Nests
