pub mod Alive
pub mod Bits
pub mod Finding
pub mod Numbered
pub mod Probes
