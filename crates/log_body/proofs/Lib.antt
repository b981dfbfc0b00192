pub mod PartLaws
pub mod Limits
