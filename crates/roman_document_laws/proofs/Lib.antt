pub mod Common
mod ListLemmas
mod NormalForms
mod PartReadLemmas
mod PartWriterLemmas
mod DocumentReadLemmas
mod DocumentWriterLemmas
mod AcceptedLemmas
mod SeveralLemmas
