pub mod Edges
pub mod Places
pub mod Unique
pub mod Masks
pub mod FirstStem
