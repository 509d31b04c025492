-- A table of connections: from its seats to the machine.
pub mod Tables
pub mod Steps
pub mod GivenBack
pub mod Clients
pub mod Cancels
pub mod Acting
pub mod Puts
pub mod Arrivals
pub mod Hearings
pub mod Leaving
pub mod Comings
pub mod Here
mod Passing
