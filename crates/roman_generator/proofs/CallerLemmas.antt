-- The lemmas of this crate that proofs of other crates may cite. All else in proofs/ can be renamed freely.

-- Moves by a served request.
pub use Rattle.roman_generator.proofs.MoveLemmas.{state_within}
