pub mod Cutting
pub mod PieceFaults
pub mod Laying
pub mod Walking
pub mod Sizes
pub mod Answering
pub mod Unique
