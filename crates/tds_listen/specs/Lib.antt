pub mod Signs
pub mod Faults
pub mod Hearing
pub mod Agreeing
