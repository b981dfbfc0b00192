pub mod PourLaws
