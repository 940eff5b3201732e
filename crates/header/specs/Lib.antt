pub mod Header
pub mod Params
