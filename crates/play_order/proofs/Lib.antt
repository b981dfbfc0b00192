pub mod LogLaws
pub mod TreeLaws
pub mod OrderLaws
