pub mod Calls
pub mod Faults
pub mod Memory
pub mod ReadCalls
pub mod Shelf
pub mod Sink
pub mod SinkCalls
pub mod Source
