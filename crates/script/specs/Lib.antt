pub mod Count
pub mod Script
