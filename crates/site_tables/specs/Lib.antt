pub mod Entry
pub mod Tables
pub mod Found
pub mod Access
