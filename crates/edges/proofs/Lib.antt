pub mod Lines
pub mod Parts
pub mod Maps
pub mod Digits
pub mod Unique
