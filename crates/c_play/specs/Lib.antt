pub mod Players
pub mod Pieces
