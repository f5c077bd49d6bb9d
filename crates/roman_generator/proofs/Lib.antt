pub mod Common
pub mod OfferLemmas
pub mod MoveLemmas
pub mod CallerLemmas
