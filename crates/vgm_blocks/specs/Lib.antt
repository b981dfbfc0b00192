pub mod Blocks
pub mod Fault
