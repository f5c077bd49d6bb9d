pub mod Common
pub mod RowBits
mod Blocks
pub mod CallerLemmas
