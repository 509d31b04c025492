pub mod Alone
pub mod Bytes
pub mod Serving
pub mod Telling
pub mod Turns
pub mod Visits
