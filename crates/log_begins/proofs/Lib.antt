pub mod Beginnings
pub mod Furthest
pub mod ValueLaws
pub mod WholeLaws
pub mod WriteLaws
