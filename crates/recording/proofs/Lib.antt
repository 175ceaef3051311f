pub mod RowBegun
pub mod BitNumbers
pub mod RecordParts
