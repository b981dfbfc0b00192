pub mod Begins
pub mod Counts
pub mod Digits
pub mod Fronts
