pub mod Muted
pub mod RangeLaws
