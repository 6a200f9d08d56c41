pub mod Asked
pub mod Hearing
pub mod Near
pub mod Packing
pub mod Tables
