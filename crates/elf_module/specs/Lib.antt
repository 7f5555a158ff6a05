pub mod Elf
pub mod Refusals
pub mod Inside
