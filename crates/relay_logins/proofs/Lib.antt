pub mod Ahead
pub mod Letters
pub mod Packets
pub mod Prelogin
