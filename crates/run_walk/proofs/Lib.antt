pub mod WalkLaws
pub mod SettleLaws
