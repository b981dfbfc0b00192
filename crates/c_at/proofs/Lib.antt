pub mod AtLaws
pub mod Parts
