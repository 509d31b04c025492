-- Plays over links that fail.
pub mod Worlds
pub mod Few
pub mod Marks
pub mod Told
pub mod Reports
pub mod Alone
pub mod Rest
pub mod Cleaned
pub mod LeftClean
pub mod Headline
