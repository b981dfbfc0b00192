pub mod DividerLaws
pub mod RangeLaws
