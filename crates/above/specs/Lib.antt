pub mod Reached
pub mod Promised
pub mod TooLarge
