pub mod Words
pub mod Bytes
pub mod Rows
pub mod Answers
