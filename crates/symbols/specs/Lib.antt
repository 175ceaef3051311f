pub mod Symbols
pub mod SymbolPart
pub mod SymbolsRead
pub mod Table
