pub mod Range
pub mod Sequencer
pub mod Square
pub mod Write
