pub mod Given
pub mod Differing
pub mod Verdicts
