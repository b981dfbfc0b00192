pub mod Sound
pub mod Turns
