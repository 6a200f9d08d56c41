pub mod Told
pub mod Numbering
pub mod ShareNumbers
pub mod Ties
pub mod Sound
pub mod CheckedMembers
pub mod FieldNumbers
pub mod LawfulProof
