pub mod ClockLaws
pub mod NumberLaws
pub mod WalkLaws
