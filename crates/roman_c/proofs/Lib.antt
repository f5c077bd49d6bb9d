pub mod Common
pub mod JobLemmas
mod Values
