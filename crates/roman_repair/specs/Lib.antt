pub mod Repairs
pub mod Replays
pub mod Deaths
pub mod Alone
pub mod BandProbes
pub mod Judging
pub mod Lanes
pub mod Growing
