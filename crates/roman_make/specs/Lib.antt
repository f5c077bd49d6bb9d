pub mod Errors
pub mod Names
pub mod Script
pub mod Made
