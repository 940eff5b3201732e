pub mod Verdicts
pub mod SameBytes
pub mod Outcomes
