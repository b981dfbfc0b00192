pub mod Leap
pub mod Owing
pub mod Stretch
