pub mod Text
pub mod Number
pub mod Host
pub mod Stored
pub mod Gives
pub mod MemoryHost
