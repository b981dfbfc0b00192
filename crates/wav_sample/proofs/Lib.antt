pub mod ClockLaws
pub mod FeedLaws
pub mod OrderLaws
pub mod Given
pub mod CountLaws
pub mod HeldLaws
pub mod FitLaws
pub mod NextLaws
