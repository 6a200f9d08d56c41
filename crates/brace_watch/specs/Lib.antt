pub mod Lines
pub mod Watches
pub mod Figures
pub mod Texts
pub mod inner
