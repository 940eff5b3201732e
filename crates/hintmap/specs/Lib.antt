pub mod Map
pub mod Insert
pub mod WholeStems
pub mod Lent
