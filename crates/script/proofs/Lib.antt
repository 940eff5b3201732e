pub mod Counting
pub mod Passed
pub mod Results
pub mod Tests
pub mod Unique
