pub mod FileLaws
pub mod Sizes
