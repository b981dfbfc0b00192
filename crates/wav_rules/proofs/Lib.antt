pub mod TurnLaws
pub mod ClocksLaws
pub mod LineLaws
pub mod Telling
pub mod Said
pub mod SizeLaws
