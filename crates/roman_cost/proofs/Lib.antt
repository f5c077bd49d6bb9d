mod CostLemmas
mod Greatest
mod Best
mod Values
mod Ranks
mod OfferedSeats
mod TermLemmas
mod Lines
mod PlanningLemmas
mod LawLemmas
pub mod Common
pub mod CallerLemmas
