pub mod BitLaws
pub mod IterateLaws
pub mod PickLaws
pub mod ShiftLaws
pub mod Signed32
pub mod TableLaws
