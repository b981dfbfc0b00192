pub mod AheadLaws
pub mod DigitLaws
pub mod LineLaws
pub mod WordLaws
