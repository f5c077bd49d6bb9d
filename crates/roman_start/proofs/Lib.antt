pub mod Common
pub mod StartLemmas
pub mod DigitLemmas
pub mod ExtentLemmas
pub mod CallerLemmas
