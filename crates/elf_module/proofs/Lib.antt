pub mod Contents
pub mod Finding
pub mod Loading
pub mod Made
pub mod NamesEnd
pub mod Rows
pub mod SymbolsFrom
