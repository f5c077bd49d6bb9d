pub mod Starts
pub mod Seating
pub mod Extents
pub mod Digits
