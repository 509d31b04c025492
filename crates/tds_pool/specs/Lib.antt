pub mod Connections
pub mod Calls
pub mod History
pub mod Fields
pub mod Lends
pub mod Cleaning
