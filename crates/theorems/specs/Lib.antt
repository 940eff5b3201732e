pub mod Demand1
pub mod Reached
pub mod Demand3
pub mod Lone
pub mod Fitting
pub mod WholeRecords
pub mod Listed
pub mod Branches
