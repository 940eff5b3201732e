pub mod Room
pub mod Run
pub mod Counting
pub mod Kept
