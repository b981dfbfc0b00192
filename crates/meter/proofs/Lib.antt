pub mod Answers
pub mod Exacts
pub mod Lists
pub mod Steps
pub mod Numbers
