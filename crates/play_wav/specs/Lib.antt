pub mod Pieces
pub mod Calls
pub mod Loop
pub mod Head
