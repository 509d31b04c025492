pub mod Appending
pub mod Readers
pub mod Texts
pub mod Messages
pub mod Memoryless
pub mod Decoded
pub mod Whole
