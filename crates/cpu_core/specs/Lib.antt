pub mod Fetch
pub mod Turn
pub mod CpuInside
pub mod Standing
pub mod Lines
