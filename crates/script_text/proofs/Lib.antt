mod Examples
mod FirstLines
mod NoText
pub mod Faults
pub mod Kept
mod Reading
mod OfModules
pub mod SameNames
