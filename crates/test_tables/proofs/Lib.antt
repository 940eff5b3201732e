pub mod Unique
pub mod Searching
