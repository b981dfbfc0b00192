pub mod OwingLaws
pub mod StretchLaws
