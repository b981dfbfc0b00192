pub mod Triangle
pub mod Write
