pub mod AnswerLaws
pub mod BlockLaws
pub mod FillLaws
pub mod FuelLaws
pub mod JudgeLaws
pub mod LimitLaws
pub mod Worked
