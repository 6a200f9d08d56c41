pub mod WalkZero
pub mod NamesUnplaced
pub mod ChecksZero
pub mod AlikeScripts
