pub mod Common
pub mod Strides
pub mod Tables
pub mod Moves
pub mod Shown
pub mod RowLemmas
pub mod CallerLemmas
