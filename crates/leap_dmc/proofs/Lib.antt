pub mod CalmLaws
pub mod LeapLaws
