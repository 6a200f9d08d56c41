pub mod Draws
pub mod Entering
pub mod FirstFault
pub mod LawfulAgent
pub mod Order
pub mod Records
pub mod Texts
pub mod Values
