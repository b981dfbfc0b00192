pub mod Entries
pub mod Mending
pub mod Promise
pub mod Settled
