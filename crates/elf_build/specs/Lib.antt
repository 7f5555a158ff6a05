pub mod Fits
pub mod Gabi
pub mod File
pub mod Generated
