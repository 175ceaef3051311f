pub mod Promises
pub mod Conversions
pub mod Listings
pub mod Desk
