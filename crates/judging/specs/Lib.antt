pub mod First
pub mod Judged
pub mod Search
pub mod Ranks
pub mod Sorts
pub mod Words
