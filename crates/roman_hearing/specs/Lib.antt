pub mod Told
pub mod Known
pub mod Events
pub mod Laws
pub mod Several
pub mod Hearing
pub mod HearingBytes
