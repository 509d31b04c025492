-- What waits on a connection and what is due, by where its newest request is.
pub mod Flow
pub mod Arrivals
pub mod Stops
pub mod Heard
pub mod Keeps
pub mod Cancels
pub mod Busy
pub mod Fates
pub mod Sound
pub mod Quiet
pub mod Counts
