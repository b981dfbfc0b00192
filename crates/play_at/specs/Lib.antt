pub mod Reached
pub mod Walking
