pub mod TableLaws
pub mod FractionLaws
pub mod LevelLaws
pub mod PartsLaws
