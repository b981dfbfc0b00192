pub mod TotalLaws
pub mod NestLaws
