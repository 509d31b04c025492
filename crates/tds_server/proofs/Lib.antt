mod Short
mod Begun
mod Wanted
mod Ended
mod Stepping
