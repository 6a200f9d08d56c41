pub mod Reading
pub mod Written
pub mod Standing
pub mod Going
