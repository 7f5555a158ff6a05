pub mod Written
pub mod TheHost
