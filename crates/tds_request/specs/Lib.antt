pub mod Values
pub mod Faults
pub mod Layout
pub mod Reading
