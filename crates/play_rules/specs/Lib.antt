pub mod Sound
pub mod Portion
pub mod Turns
