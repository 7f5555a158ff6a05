pub mod Counting
pub mod Keeping
pub mod First
pub mod Differing
pub mod Pieces
pub mod Poking
pub mod Clashing
pub mod Rewriting
pub mod Settling
pub mod Going
pub mod ShortNumbers
mod Examples
