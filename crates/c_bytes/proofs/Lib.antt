pub mod NumberLaws
pub mod PlaceLaws
pub mod WideLaws
