pub mod AnswerLaws
pub mod FaultLaws
pub mod RangeLaws
pub mod RangeBack
pub mod Standing
pub mod NumberLaws
