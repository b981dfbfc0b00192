pub mod Levels
pub mod Outputs
pub mod Refusals
pub mod Steps
