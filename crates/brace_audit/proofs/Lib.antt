pub mod AnswerLemmas
pub mod AuditLemmas
pub mod FollowLemmas
pub mod LawLemmas
pub mod LineLemmas
pub mod ReadingLemmas
