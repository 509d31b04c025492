pub mod Attentions
pub mod Calls
pub mod Faults
pub mod Lines
pub mod Runs
pub mod Told
pub mod Turns
