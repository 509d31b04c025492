-- A delivery to either end of a connection.
pub mod ServerEvent
pub mod ClientSizes
pub mod ClientEvent
