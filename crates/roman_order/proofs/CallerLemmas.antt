-- The lemmas of this crate that proofs of other crates may cite. All else in proofs/ can be renamed freely.

-- The lanes of a word, and the entries of the pairs at them.
pub use Rattle.roman_order.proofs.Lanes.{entries_in_rows-row, has_entry-lane, has_entry-later, in_lanes, lane_place, lanes_once, none_below, on_in, on_lowered, one_pow, set_lanes-joined}
-- Lists with one more entry.
pub use Rattle.roman_order.proofs.Places.{is_some-place_in_list}
-- Marks that were lent.
pub use Rattle.roman_order.proofs.Words.{rewritten_whole}
-- Batches and their entries.
pub use Rattle.roman_order.proofs.Lanes.{no_lane, set_lanes-zero, some_lane}
pub use Rattle.roman_order.proofs.Batches.{length-entries_at}
pub use Rattle.roman_order.proofs.Reading.{all_in, drop_next, get_first}
pub use Rattle.roman_order.proofs.Kept.{apart_words}
pub use Rattle.roman_order.proofs.Stamps.{has_entry-batch}
