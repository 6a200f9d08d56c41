pub mod TableLemmas
pub mod FirstLemmas
pub mod Folds
pub mod StmtLemmas
pub mod NameOrder
