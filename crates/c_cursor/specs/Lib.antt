pub mod Cursors
pub mod Next
pub mod Limits
