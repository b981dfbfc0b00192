pub mod Levels
pub mod Words
