pub mod PutLaws
pub mod HexLaws
pub mod DecimalLaws
pub mod ReadLaws
pub mod HexBack
pub mod DecimalBack
pub mod OneResult
pub mod Computed
