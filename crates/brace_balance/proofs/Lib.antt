pub mod Balances
pub mod Counts
pub mod Filled
pub mod Neighbours
pub mod Ordered
pub mod Refusals
pub mod Stacks
