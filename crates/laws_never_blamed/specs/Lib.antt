pub mod Tokens
pub mod Seen
pub mod Crossing
pub mod Spelled
pub mod Called
pub mod Relayed
