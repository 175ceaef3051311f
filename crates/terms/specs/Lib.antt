pub mod Places
pub mod InCode
pub mod Refusals
pub mod TermRows
pub mod Gathering
pub mod Judging
pub mod Blocks
pub mod Meeting
