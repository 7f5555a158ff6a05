pub mod Poke
pub mod Walk
pub mod Underway
pub mod Patch
pub mod Stage
pub mod Inside
pub mod Clash
pub mod Laws
