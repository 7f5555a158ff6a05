pub mod Proc
pub mod Subset
pub mod Spells
pub mod Reach
pub mod Reading
pub mod Effect
pub mod Whole
pub mod Laws
