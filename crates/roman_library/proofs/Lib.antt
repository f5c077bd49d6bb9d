mod PrefixLemmas
pub mod Common
mod LibraryLemmas
mod LocatedLemmas
pub mod TargetLemmas
pub mod KnownLemmas
pub mod CombinedLemmas
pub mod CallerLemmas
