-- How many there can be of what a play counts.
pub mod Underway
pub mod Counts
pub mod Descriptors
