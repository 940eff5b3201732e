pub mod Reading
pub mod AskedAnswers
pub mod Output
pub mod Unique
