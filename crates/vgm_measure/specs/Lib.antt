pub mod Import
pub mod Measure
