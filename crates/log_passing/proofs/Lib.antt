pub mod ActLaws
pub mod Passing
pub mod TextLaws
