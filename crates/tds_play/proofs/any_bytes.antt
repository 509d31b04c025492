-- What any bytes come to, whether they spell packets or not.
pub mod Fed
pub mod Stays
pub mod Brought
pub mod Answered
pub mod Given
pub mod Places
pub mod Faithful
pub mod Told
