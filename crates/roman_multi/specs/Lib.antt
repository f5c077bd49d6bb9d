pub mod Combining
pub mod Errors
pub mod Lists
pub mod Merges
