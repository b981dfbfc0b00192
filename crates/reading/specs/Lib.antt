pub mod Counting
pub mod Reading
pub mod Saying
