pub mod BackLaws
pub mod CodeLaws
pub mod FileLaws
pub mod Joined
pub mod PartLaws
pub mod PlaceLaws
