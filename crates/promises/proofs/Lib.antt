pub mod Contracts
pub mod Kept
pub mod OneOutcome
pub mod OneOutcomeOf
pub mod Converting
pub mod Listings
pub mod Fuel
pub mod Desk
