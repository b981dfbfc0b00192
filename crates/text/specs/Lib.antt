pub mod Ascii
pub mod Decimal
pub mod Hex
pub mod Key
pub mod Numbers
