pub mod CountLaws
pub mod HopLaws
pub mod Listed
pub mod Limits
