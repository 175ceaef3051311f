pub mod Trees
pub mod TreeAt
pub mod Rules
pub mod Admission
pub mod Index
pub mod Reader
pub mod TreesRead
pub mod RowsRead
