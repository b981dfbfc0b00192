pub mod Clock
pub mod Range
pub mod Write
