-- The lemmas of this crate that proofs of other crates may cite. All else in proofs/ can be renamed freely.

-- The services of a library have their seats, and start in states of their behaviours.
pub use Rattle.roman_start.proofs.StartLemmas.{behaviours_within, names_once, start_pair}
