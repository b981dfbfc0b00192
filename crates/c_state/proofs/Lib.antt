pub mod BackLaws
pub mod CodeLaws
