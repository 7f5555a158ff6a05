pub mod Asking
pub mod Ways
pub mod TwoFiles
pub mod SameModules
pub mod Sayings
pub mod TableLines
pub mod OutcomeLines
pub mod ScriptUpdates
