pub mod Mask
pub mod Edge
pub mod Lists
