-- The lemmas of this crate that proofs of other crates may cite. All else in proofs/ can be renamed freely.

-- Lists of entries that begin with other lists.
pub use Rattle.roman_relation.proofs.Beginnings.{listed_is}
-- Pairs as lanes of rows.
pub use Rattle.roman_relation.proofs.Lanes.{words_rows}
-- Relations with a complete list, and the greatest ND-simulation.
pub use Rattle.roman_relation.proofs.Relating.{listed_numbers, room_for_pairs}
