pub mod AheadLaws
pub mod JumpLaws
pub mod LeapLaws
pub mod LinearLaws
pub mod RoundLaws
