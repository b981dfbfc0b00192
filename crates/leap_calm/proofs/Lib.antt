pub mod LevelLaws
pub mod TableLaws
