pub mod Landing
pub mod RangeLaws
