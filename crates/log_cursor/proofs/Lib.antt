pub mod WalkLaws
pub mod Whole
pub mod NumberLaws
