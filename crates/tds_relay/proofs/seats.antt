pub mod Counting
pub mod Within
pub mod Pools
pub mod Leased
pub mod Linked
pub mod Relays
pub mod Rests
