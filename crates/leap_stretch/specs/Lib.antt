pub mod Lagged
pub mod Lag
pub mod Voices
