-- A lease can't tell that it shares its connection.
pub mod Alone
pub mod AloneShown
pub mod TwoPlays
