pub mod Decimals
pub mod Readings
pub mod Verdicts
pub mod Remain
pub mod Audits
pub mod Lines
pub mod Readers
pub mod Checks
