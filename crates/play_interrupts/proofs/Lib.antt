pub mod ChangeLaws
pub mod NumberLaws
pub mod Said
pub mod StepLaws
pub mod Telling
pub mod UntilLaws
