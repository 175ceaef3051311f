pub mod Extents
pub mod Nested
pub mod Parts
pub mod Ways
