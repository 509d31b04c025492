-- A table of connections.
pub mod Plain
pub mod Clients
pub mod Table
pub mod Chosen
pub mod Answers
pub mod Calls
pub mod Asking
pub mod OnSeat
pub mod Hearing
pub mod Packet
pub mod ComesOn
pub mod Here
