pub mod Fault
pub mod RunFault
