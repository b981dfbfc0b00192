pub mod AheadLaws
pub mod KeptLaws
pub mod LeastLaws
pub mod Passes
pub mod Samples
