pub mod DecimalLaws
pub mod FormLaws
pub mod ReachLaws
pub mod ScanLaws
