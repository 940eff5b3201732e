pub mod Cases
pub mod Judging
