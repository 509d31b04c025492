pub mod Lawful
pub mod Link
pub mod Answering
pub mod Agreeing
pub mod Starting
pub mod Working
pub mod Alone
