pub mod Common
pub mod NumberedFacts
pub mod ProbeLemmas
pub mod Serving
pub mod CallerLemmas
