pub mod Levels
pub mod Measure
pub mod Meter
pub mod Records
pub mod Spans
pub mod Says
