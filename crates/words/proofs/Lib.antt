pub mod Words
pub mod Rows
pub mod Answers
pub mod Placing
pub mod Laid
pub mod Unique
