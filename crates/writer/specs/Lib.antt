pub mod Rows
pub mod Layout
pub mod Write
pub mod InCode
pub mod Exact
