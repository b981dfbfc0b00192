pub mod BufferLaws
pub mod ImportLaws
pub mod PenLaws
pub mod Promised
pub mod ReadyLaws
pub mod StandLaws
pub mod WriteLaws
