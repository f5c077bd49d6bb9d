-- The lemmas of this crate that proofs of other crates may cite. All else in proofs/ can be renamed freely.

-- The normal form has the same steps, and its numbers are in range.
pub use Rattle.roman_parts.proofs.NormalLemmas.{IsOver-start, IsOver-states, from_normal_move, from_normal_triple, has_move-normal, has_triple-normal, is_final-normal}
-- Lists of three and four items, and lists of steps that are read item by item.
pub use Rattle.roman_parts.proofs.PieceLemmas.{slice_range-append}
pub use Rattle.roman_parts.proofs.StepLemmas.{items}
-- A number below a bound is kept by a filter exactly when it passes the test.
pub use Rattle.roman_parts.proofs.TableLemmas.{has_filter, states_below-filter}
-- No choice is left.
pub use Rattle.roman_parts.proofs.ChoiceLemmas.{first_below-none}
-- The value of a document that is read as a part is well formed.
pub use Rattle.roman_parts.proofs.PartLemmas.{IsEnvironment, behaviour_known, check_is, counted_are, env_read, environment_known, found_is, none_absent, none_is, place_below, target_known, there_some}
