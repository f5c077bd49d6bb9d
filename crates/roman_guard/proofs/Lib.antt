pub mod Common
pub mod StateLemmas
pub mod MarkLemmas
pub mod HoldsLemmas
pub mod CommonLemmas
pub mod SingleLemmas
pub mod CallerLemmas
