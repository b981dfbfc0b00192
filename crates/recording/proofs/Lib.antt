pub mod ByteLaws
pub mod CheckLaws
pub mod FileLaws
pub mod Imported
pub mod KindLaws
pub mod Limits
pub mod Passing
