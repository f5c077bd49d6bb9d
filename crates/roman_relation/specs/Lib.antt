pub mod Seats
pub mod Shaped
pub mod Settled
pub mod Rounds
pub mod Greatest
