pub mod HeardLaws
pub mod NumberLaws
pub mod PassLaws
pub mod RunLaws
pub mod WaitLaws
pub mod WalkLaws
