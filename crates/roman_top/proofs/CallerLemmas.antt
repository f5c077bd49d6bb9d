-- The lemmas of this crate that proofs of other crates may cite. All else in proofs/ can be renamed freely.

-- The parts of an accepted document's library are those of a system.
pub use Rattle.roman_top.proofs.StartsKnown.{library_parts}
