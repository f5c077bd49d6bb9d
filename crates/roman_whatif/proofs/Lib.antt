pub mod Common
pub mod Lasting
pub mod LaterFirst
pub mod Swaps
pub mod Repeats
pub mod Telling
