pub mod WriteLaws
pub mod OrderLaws
