pub mod Fraction
pub mod Mixer
pub mod Parts
pub mod Table
