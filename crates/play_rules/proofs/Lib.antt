pub mod LevelLaws
pub mod RoomLaws
pub mod Saying
pub mod TellLaws
pub mod TurnLaws
pub mod WaitLaws
