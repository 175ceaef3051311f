pub mod Exactly
pub mod Tallying
pub mod Taking
pub mod TallyWays
pub mod Told
