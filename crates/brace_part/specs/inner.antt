pub mod Ready
pub mod Sound
