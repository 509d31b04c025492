pub mod Accepts
pub mod Flows
pub mod Pairs
pub mod Pasts
