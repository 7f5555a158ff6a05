pub mod Accepted
pub mod Bench
