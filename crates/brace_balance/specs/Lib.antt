pub mod Fillings
pub mod Loads
pub mod Texts
