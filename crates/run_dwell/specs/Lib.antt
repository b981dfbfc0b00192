pub mod Dwell
pub mod Kept
