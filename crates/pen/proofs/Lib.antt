pub mod Lent
pub mod Words
pub mod Counts
pub mod Drew
pub mod Unique
