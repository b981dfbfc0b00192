pub mod Stamps
pub mod Write
