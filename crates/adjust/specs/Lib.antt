pub mod Adjust
pub mod Pass
pub mod Second
pub mod Adjusted
