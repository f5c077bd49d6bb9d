pub mod Words
pub mod Rows
pub mod Flags
pub mod Tables
