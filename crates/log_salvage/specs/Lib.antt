pub mod Answer
pub mod Steps
pub mod Writing
