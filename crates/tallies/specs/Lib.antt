pub mod Tallied
pub mod InCode
