pub mod Left
pub mod Losses
pub mod Told
pub mod Scenarios
