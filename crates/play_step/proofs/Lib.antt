pub mod PortionLaws
pub mod TakenLaws
