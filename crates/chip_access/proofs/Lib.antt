pub mod AccessLaws
pub mod Elsewhere
pub mod MachineLaws
pub mod RangeLaws
