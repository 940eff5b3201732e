pub mod Lending
pub mod Comparing
pub mod Judging
