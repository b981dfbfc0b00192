pub mod LoopLaws
pub mod Whole
