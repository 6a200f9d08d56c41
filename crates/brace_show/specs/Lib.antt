pub mod Literals
pub mod Expressions
pub mod Canonical
pub mod Alike
pub mod Back
