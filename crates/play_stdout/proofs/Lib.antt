pub mod LineLaws
pub mod PourLaws
