pub mod Stepping
pub mod Writing
pub mod Pens
