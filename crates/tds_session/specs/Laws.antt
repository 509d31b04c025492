-- Lemmas that contracts stand on: the batch language keeps the laws of an engine, and what is
-- read of a text is spelled by it.
pub mod Sessions
pub mod Pieces
pub mod Numerals
pub mod Spells
pub mod Words
pub mod Effects
pub mod Packets
pub mod Texts
