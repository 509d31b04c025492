pub mod Steps
pub mod Requests
pub mod Asking
