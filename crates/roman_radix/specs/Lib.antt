pub mod Radix
pub mod Places
pub mod Layout
pub mod Rows
