pub mod DwellLaws
pub mod KeptLaws
pub mod WithinLaws
