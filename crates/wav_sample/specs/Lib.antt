pub mod Samples
pub mod Sampler
pub mod Closed
