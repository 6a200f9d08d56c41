pub mod Split
pub mod Range
pub mod Inversion
pub mod Held
pub mod Assigned
pub mod inner
