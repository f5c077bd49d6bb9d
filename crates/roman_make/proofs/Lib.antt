pub mod Common
pub mod NameLemmas
pub mod PartLemmas
pub mod SystemLemmas
