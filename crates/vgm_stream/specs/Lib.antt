pub mod Steps
pub mod Stream
