pub mod Texts
pub mod Refusals
pub mod Library
pub mod Documents
pub mod PartLists
pub mod Known
pub mod Targets
