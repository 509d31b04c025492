pub mod Asked
pub mod Reading
pub mod Answers
pub mod LineEnds
pub mod Asking
