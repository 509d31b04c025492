-- What an event is made of, and what it keeps.
pub mod Words
pub mod Happens
pub mod Places
pub mod Standings
pub mod Agreement
pub mod Adds
pub mod Grows
pub mod Worlds
pub mod Noted
pub mod Moves
pub mod Options
