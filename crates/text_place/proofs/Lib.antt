pub mod Fronts
pub mod Sizes
pub mod Spelled
pub mod Worked
