pub mod Lag
pub mod Leap
