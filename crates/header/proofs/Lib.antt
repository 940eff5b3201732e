pub mod Tests
pub mod Fine
pub mod Unique
