pub mod ReadsLaws
pub mod Joined
