pub mod Accepted
pub mod ReadRooms
pub mod Shortened
pub mod Unique
