pub mod Common
pub mod EndingLemmas
pub mod OpeningLemmas
pub mod CallerLemmas
