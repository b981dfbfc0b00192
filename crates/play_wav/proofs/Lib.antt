pub mod BeginLaws
pub mod CallLaws
pub mod HeadLaws
pub mod LentLaws
pub mod LoopLaws
pub mod StepLaws
pub mod Whole
