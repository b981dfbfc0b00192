pub mod RangeLaws
pub mod ShifterLaws
