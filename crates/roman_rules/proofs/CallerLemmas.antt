-- The lemmas of this crate that proofs of other crates may cite. All else in proofs/ can be renamed freely.

-- Arenas over numbers keep the laws of arenas.
pub use Rattle.roman_rules.proofs.NumberedFacts.{from_nodes, in_nodes, numbered_arena, numbered_same}
-- Known answers of a row remain correct, and counts of the numbers below a bound.
pub use Rattle.roman_rules.proofs.ProbeLemmas.{bit_off, count_below_more, known_more, readings_of-allowed}
-- The bits of masks, and the number of seats in the masks of a row's pairs.
pub use Rattle.roman_rules.proofs.Serving.{action_counted, has_good, has_seat_is, mask_all, mask_more, mask_refused, none_chosen, ones_counted, ones_few, served_by}
pub use Rattle.roman_rules.proofs.Serving.{sum_below_more, sum_cut, sum_further, sum_turned}
