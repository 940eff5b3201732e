pub mod Glyphs
pub mod Answers
pub mod Labels
pub mod Measured
