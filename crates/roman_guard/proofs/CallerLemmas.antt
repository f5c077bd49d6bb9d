-- The lemmas of this crate that proofs of other crates may cite. All else in proofs/ can be renamed freely.

-- The numbers below a bound that pass a test.
pub use Rattle.roman_guard.proofs.StateLemmas.{in_states_below, states_below-past, states_below-same, states_below-suc, states_below-zero, states_below_are}
-- The meaning of a guard, by its variants.
pub use Rattle.roman_guard.proofs.HoldsLemmas.{holds-All, holds-Among, holds-Both, holds-Either, holds-Never, holds-Not}
-- A word with one bit stands for one state.
pub use Rattle.roman_guard.proofs.SingleLemmas.{states_of-single}
