pub mod Displacement
pub mod Spelling
pub mod Changes
pub mod Write
pub mod History
pub mod Same
