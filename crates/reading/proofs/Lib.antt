pub mod CountingLaws
pub mod ReadingLaws
pub mod SayingLaws
