pub mod Window
pub mod Stepping
