-- The answers of the batch language.
pub mod Lawful
pub mod Script
pub mod HandsOut
pub mod Fitting
