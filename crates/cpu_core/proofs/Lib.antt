pub mod CpuNumbers
pub mod Told
pub mod Begun
pub mod SoFar
