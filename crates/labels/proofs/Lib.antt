pub mod Walking
pub mod Laying
pub mod Rooms
pub mod Measuring
pub mod Filled
pub mod Surveys
pub mod Answering
pub mod Unique
