pub mod Sizes
pub mod Constants
pub mod Decisions
pub mod Lent
