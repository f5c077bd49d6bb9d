pub mod ShelfLemmas
pub mod SinkLemmas
pub mod SourceLemmas
pub mod CallerLemmas
