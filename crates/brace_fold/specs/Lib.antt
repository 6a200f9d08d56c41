pub mod Arranged
pub mod Asked
pub mod Becoming
pub mod Hears
pub mod inner
pub mod Listed
pub mod Rows
pub mod Sums
