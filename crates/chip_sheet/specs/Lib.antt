pub mod Byte
pub mod Sheet
