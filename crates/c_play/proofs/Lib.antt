pub mod Joined
pub mod PlayerLaws
