pub mod LevelLaws
pub mod RecordLaws
