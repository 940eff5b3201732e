pub mod Records
pub mod Strokes
pub mod Drawn
pub mod Counting
