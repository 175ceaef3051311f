pub mod Records
pub mod Demand3
pub mod Partial
pub mod Readings
pub mod Entries
