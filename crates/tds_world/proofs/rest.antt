-- Each connection that isn't cut comes to rest.
pub mod Arriving
pub mod Sending
pub mod Stopping
pub mod Cancelling
pub mod Holders
pub mod Becomes
pub mod NeverStuck
pub mod Enough
pub mod Older
pub mod StopCounts
pub mod FinishCounts
