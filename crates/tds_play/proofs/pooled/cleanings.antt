-- Connections that the pool cleans.
pub mod Cleaned
pub mod Skipping
