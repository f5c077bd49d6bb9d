pub mod Common
pub mod LineLemmas
mod WordLemmas
pub mod ShapeLemmas
pub mod PageLemmas
pub mod Filling
pub mod CallerLemmas
