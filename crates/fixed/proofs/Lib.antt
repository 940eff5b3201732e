pub mod Tests
pub mod Ints
pub mod Bits
pub mod Nearest
pub mod Counts
pub mod Order
pub mod Laws
pub mod Unique
