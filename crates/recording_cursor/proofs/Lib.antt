pub mod Along
pub mod Whole
pub mod Allowed
pub mod NumberLaws
