pub mod Filling
pub mod Verdicts
pub mod Results
pub mod Agreeing
