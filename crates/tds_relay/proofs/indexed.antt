pub mod Halves
pub mod Climbing
pub mod Index
pub mod Holding
pub mod Placing
