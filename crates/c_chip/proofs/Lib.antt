pub mod Apart
pub mod StoreLaws
