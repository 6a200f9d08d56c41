pub mod AppendLemmas
pub mod MemLemmas
pub mod ReadLemmas
pub mod WholeLemmas
