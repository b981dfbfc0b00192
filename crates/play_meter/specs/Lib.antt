pub mod Meters
pub mod Passing
pub mod Walking
