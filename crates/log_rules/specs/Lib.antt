pub mod Lines
pub mod Head
pub mod Judge
pub mod Reading
pub mod Tree
pub mod Whole
pub mod Block
pub mod Closing
