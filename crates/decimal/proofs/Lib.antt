pub mod Sizes
pub mod Exact
pub mod Putting
pub mod Unique
