pub mod AnswerWords
pub mod Program
pub mod Unique
