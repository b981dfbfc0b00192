pub mod LineLaws
pub mod MachineLaws
pub mod RangeLaws
