pub mod TraceText
pub mod Operations
pub mod Steps
pub mod Updating
pub mod World
pub mod WorldInside
pub mod Turns
pub mod Choosing
