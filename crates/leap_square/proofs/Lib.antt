pub mod LagLaws
pub mod LeapLaws
pub mod PackedLaws
pub mod PlaceLaws
pub mod RoundLaws
pub mod TurnLaws
