pub mod BitLaws
pub mod DigitLaws
pub mod Sizes
