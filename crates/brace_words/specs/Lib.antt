pub mod Command
pub mod Lines
pub mod Modes
pub mod Options
pub mod Values
pub mod inner
