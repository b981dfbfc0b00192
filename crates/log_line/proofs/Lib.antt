pub mod BodyLaws
pub mod FeedLaws
pub mod Forth
pub mod LineLaws
pub mod Back
