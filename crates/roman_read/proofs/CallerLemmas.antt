-- The lemmas of this crate that proofs of other crates may cite. All else in proofs/ can be renamed freely.

-- The place of a name in a list of names.
pub use Rattle.roman_read.proofs.NameLemmas.{IsPast, past_found, past_next, past_none, place_of-absent, place_of-present, position-none, position-some}
-- Loops over the items of a list, each of which may be refused: the remaining items give the result of all items.
pub use Rattle.roman_read.proofs.ReadingLemmas.{IsLeft, at_start, each, ends, goes_on, is_done, pushed_ends, pushed_on, pushes}
-- Readings that succeed, and their values.
pub use Rattle.roman_read.proofs.ReadingLemmas.{bind_ok, same_ok}
