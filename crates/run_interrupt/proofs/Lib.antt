pub mod FirstLaws
pub mod RiseLaws
pub mod NumberLaws
