pub mod Alike
pub mod Resumed
pub mod Calm
pub mod Fixed
pub mod Present
pub mod Losses
