pub mod Displacements
pub mod Spellings
pub mod Examples
pub mod Same
mod Decoding
