pub mod CalmLaws
pub mod GoingLaws
pub mod HeardLaws
