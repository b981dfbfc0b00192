pub mod LagLaws
pub mod LeapLaws
