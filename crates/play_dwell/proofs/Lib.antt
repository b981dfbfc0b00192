pub mod CountLaws
pub mod RunLaws
pub mod Sums
pub mod WalkLaws
