pub mod Mending
pub mod Nesting
