pub mod Pieces
pub mod ToWrite
pub mod ParamWords
pub mod Refusals
