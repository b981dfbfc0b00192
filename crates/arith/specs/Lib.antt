pub mod Bit
pub mod Iterate
pub mod Pick
pub mod Table
pub mod Over
