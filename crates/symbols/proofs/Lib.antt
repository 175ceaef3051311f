pub mod Tables
pub mod Ranks
pub mod Parts
