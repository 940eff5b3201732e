pub mod Taken
pub mod Keep
pub mod Family
pub mod Listing
pub mod Holding
pub mod Unique
