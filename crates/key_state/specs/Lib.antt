pub mod After
pub mod Effects
pub mod Changes
pub mod Outcome
pub mod OutcomeLine
pub mod Settled
pub mod Writing
pub mod Laws
