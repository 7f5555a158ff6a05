pub mod Entries
pub mod Keys
pub mod KeyList
pub mod Names
pub mod Naming
pub mod NamesGiven
