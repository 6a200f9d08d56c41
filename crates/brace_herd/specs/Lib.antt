pub mod Holding
pub mod Placed
pub mod Ready
pub mod Said
pub mod Workers
pub mod Works
pub mod inner
