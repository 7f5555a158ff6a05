pub mod Spelling
pub mod Laws
pub mod Parts
pub mod ReaderState
pub mod Reading
pub mod Journals
