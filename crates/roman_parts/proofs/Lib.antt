mod PieceLemmas
mod SetLemmas
mod CellLemmas
pub mod Common
pub mod NormalLemmas
mod TableLemmas
mod GuardLemmas
pub mod StepLemmas
mod ChoiceLemmas
mod SingleLemmas
pub mod PartLemmas
pub mod CallerLemmas
