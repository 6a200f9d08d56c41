pub mod Acts
pub mod Answers
pub mod Leaving
pub mod Narrowing
pub mod Planning
pub mod Ruling
pub mod inner
