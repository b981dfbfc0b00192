pub mod Given
pub mod Value
pub mod Why
