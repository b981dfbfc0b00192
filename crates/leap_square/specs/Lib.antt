pub mod Lag
pub mod Leap
pub mod Packed
