pub mod Board
pub mod Batches
pub mod ReadAhead
pub mod Sound
pub mod Lending
