pub mod Packets
pub mod Lines
pub mod Messages
pub mod Answers
pub mod Runs
