pub mod Steps
pub mod Unique
