pub mod Integers
pub mod Fixed
