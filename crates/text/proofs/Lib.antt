pub mod NumberLaws
pub mod DecimalLaws
pub mod HexLaws
pub mod KeyLaws
