pub mod PackedLaws
pub mod TotalLaws
