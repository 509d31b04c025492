-- What the ends send: packets, messages, steps, bytes.
pub mod Ranges
pub mod Sent
pub mod Sizes
pub mod Messages
pub mod Packets
pub mod Requests
pub mod Deliveries
pub mod Steps
pub mod Sessions
pub mod Dones
pub mod Underway
pub mod Welcome
