pub mod KeepLaws
pub mod NumberLaws
