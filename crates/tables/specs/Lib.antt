pub mod Checksum
pub mod Rows
