pub mod Schedule
pub mod Events
pub mod Exchanges
pub mod Lanes
pub mod Order
pub mod inner
