pub mod Accepted
pub mod Turnable
pub mod Read
pub mod Faults
pub mod GoOn
pub mod Accepts
pub mod LeftIn
