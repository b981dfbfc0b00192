pub mod AnswerLaws
pub mod BoundLaws
pub mod CountLaws
pub mod FaultLaws
pub mod GapLaws
