pub mod Meaning
pub mod Tracers
