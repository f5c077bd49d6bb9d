pub mod Common
pub mod Giving
pub mod Tallies
pub mod Telling
pub mod Systems
