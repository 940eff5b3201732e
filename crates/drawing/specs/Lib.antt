pub mod After
pub mod Open
