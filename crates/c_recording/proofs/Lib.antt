pub mod PlaceLaws
pub mod CodeLaws
pub mod Calls
