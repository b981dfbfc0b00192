pub mod Clock
pub mod Level
pub mod Line
pub mod Range
