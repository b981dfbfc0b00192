pub mod AlikeLaws
pub mod MarkLaws
pub mod MoveLaws
pub mod PlaceLaws
pub mod StepLaws
pub mod PassLaws
pub mod AnswerLaws
