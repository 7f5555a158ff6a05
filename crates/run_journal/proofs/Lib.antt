pub mod Words
pub mod Apart
pub mod Splits
pub mod CpuWords
pub mod Codes
pub mod Lines
pub mod Journals
