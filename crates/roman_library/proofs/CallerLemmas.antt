-- The lemmas of this crate that proofs of other crates may cite. All else in proofs/ can be renamed freely.

-- Each accepted document means a well-formed library.
pub use Rattle.roman_library.proofs.KnownLemmas.{behaviour_there, libraries_known, located_is}
-- The library of a document with several targets combines them.
pub use Rattle.roman_library.proofs.CombinedLemmas.{targets_combined}
