pub mod SmallModule
