mod Examples
mod Patches
pub mod Chunks
mod Stages
mod Progresses
mod ChunkPatches
mod Clashes
mod Finding
mod Fields
pub mod Underways
pub mod Walks
pub mod Flags
