pub mod Ahead
pub mod Folding
pub mod Promise
