pub mod AtPlace
pub mod Keeping
pub mod Good
pub mod Exits
pub mod Told
