pub mod Calm
pub mod Going
pub mod Heard
