pub mod Calls
pub mod CodeLaws
pub mod LimitLaws
pub mod NextLaws
pub mod PlaceLaws
pub mod StoreLaws
