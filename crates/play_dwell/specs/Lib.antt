pub mod Dwelling
pub mod Walking
