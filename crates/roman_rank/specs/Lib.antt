pub mod Depths
pub mod Ranking
pub mod DepthText
