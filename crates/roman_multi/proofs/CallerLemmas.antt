-- The lemmas of this crate that proofs of other crates may cite. All else in proofs/ can be renamed freely.

-- Known targets: their machines are in range and deterministic, and their sizes are those of a shape.
pub use Rattle.roman_multi.proofs.KnownLemmas.{machines_known}
-- The rule that forbids the targets to be combined.
pub use Rattle.roman_multi.proofs.CombineLemmas.{good_count, request_count, state_count}
-- Combined parts that no rule forbids are in range.
pub use Rattle.roman_multi.proofs.MadeKnown.{are_allowed, combined_behaviour_over, combined_is_system, combined_target_over}
