pub mod Halves
pub mod Tables
pub mod Rising
