pub mod Certified
pub mod Slices
