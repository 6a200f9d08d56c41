pub mod Totals
pub mod Folds
pub mod Entries
pub mod Partials
pub mod inner
