pub mod Allowed
pub mod Fault
pub mod Places
pub mod Settled
pub mod Numbers
