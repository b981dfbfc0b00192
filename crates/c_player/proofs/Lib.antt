pub mod BackLaws
pub mod CodeLaws
pub mod PartLaws
pub mod PlaceLaws
