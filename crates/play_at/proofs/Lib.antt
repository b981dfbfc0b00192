pub mod Heard
pub mod WalkLaws
