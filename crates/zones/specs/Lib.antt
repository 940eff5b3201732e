pub mod Zones
pub mod State
pub mod Capture
pub mod Numbers
