pub mod RunLaws
pub mod SiftLaws
pub mod Mends
pub mod Unchanged
pub mod Promised
pub mod Few
