pub mod Imported
pub mod MachineLaws
pub mod Played
