pub mod EventLaws
pub mod NumberLaws
pub mod PlaceLaws
pub mod Said
pub mod SeenLaws
pub mod StepLaws
pub mod UntilLaws
pub mod WindowLaws
