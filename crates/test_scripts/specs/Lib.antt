pub mod Judging
pub mod Again
