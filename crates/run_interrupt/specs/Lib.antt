pub mod Next
pub mod Closed
