-- Leases that become tickets, and tickets that become leases.
pub mod Unkept
pub mod Keeping
pub mod Resuming
