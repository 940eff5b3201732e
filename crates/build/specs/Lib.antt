pub mod Ghosts
pub mod Place
pub mod Build
pub mod Made
