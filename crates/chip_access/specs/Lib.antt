pub mod Access
pub mod Status
pub mod Write
