pub mod Between
pub mod Frame
pub mod Quiet
