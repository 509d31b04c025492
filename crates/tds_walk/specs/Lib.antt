pub mod WireFields
pub mod Wire
pub mod Rooms
pub mod Within
pub mod WireTokens
pub mod WireCalls
pub mod Taking
