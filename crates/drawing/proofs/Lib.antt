pub mod Settled
pub mod Unique
