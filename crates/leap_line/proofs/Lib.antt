pub mod CountLaws
pub mod FrameLaws
pub mod DmcLaws
pub mod LineLaws
