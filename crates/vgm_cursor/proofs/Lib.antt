pub mod CommandLaws
pub mod NumberLaws
pub mod ReadLaws
pub mod WaitLaws
pub mod WalkLaws
