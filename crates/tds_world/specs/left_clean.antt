-- What a cleaning leaves, in the world and in reports.
pub mod LeftClean
pub mod LeftCleanShown
