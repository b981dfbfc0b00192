pub mod Files
pub mod Pieces
pub mod Wavs
