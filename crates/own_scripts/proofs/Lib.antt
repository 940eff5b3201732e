pub mod Elsewhere
pub mod SameZones
pub mod InResult
pub mod NotRefused
pub mod OwnBytes
pub mod Alone
pub mod BothRuns
