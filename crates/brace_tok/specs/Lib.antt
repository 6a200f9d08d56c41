pub mod Bytes
pub mod Tables
pub mod Pieces
pub mod Roles
pub mod Spells
pub mod Names
pub mod Answers
pub mod inner
