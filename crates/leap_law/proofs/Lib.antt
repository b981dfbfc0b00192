pub mod BetweenLaws
pub mod FrameLaws
pub mod QuietLaws
