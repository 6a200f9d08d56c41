pub mod FirstFault
pub mod Asked
pub mod Counting
pub mod Boxes
pub mod Lines
pub mod Printed
