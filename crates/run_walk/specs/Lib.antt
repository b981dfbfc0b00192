pub mod Walk
pub mod Settle
