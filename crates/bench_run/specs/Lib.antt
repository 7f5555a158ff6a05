pub mod Counts
pub mod Counting
pub mod Run
pub mod Bench
