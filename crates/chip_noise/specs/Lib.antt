pub mod Noise
pub mod Shifter
