pub mod Changes
pub mod Stepping
pub mod Closed
