pub mod Bytes
pub mod Encoded
pub mod Flags
