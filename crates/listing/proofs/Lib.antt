pub mod Counting
pub mod Answers
pub mod Words
pub mod Written
pub mod Unique
