pub mod Faults
pub mod Rules
pub mod Bytes
pub mod Promises
pub mod Serving
pub mod Passing
pub mod Exchanges
