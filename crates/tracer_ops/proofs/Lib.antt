mod Dropping
mod Feeding
