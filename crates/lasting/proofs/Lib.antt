pub mod Shortcuts
pub mod MovedDown
pub mod PlainTurn
pub mod Turns
pub mod LoadedRows
