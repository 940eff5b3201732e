pub mod Hints
pub mod Path
pub mod Calls
