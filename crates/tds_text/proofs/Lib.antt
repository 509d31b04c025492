mod Examples
pub mod Joined
pub mod Settings
pub mod Writing
pub mod Remaining
pub mod FieldCounts
pub mod Utf16
pub mod Batches
pub mod Judged
pub mod HexWords
mod ScheduleExamples
