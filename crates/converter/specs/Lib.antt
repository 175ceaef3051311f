pub mod Written
pub mod Converted
pub mod Convert
pub mod Scan
pub mod InCode
pub mod Same
