-- The lemmas of this crate that proofs of other crates may cite. All else in proofs/ can be renamed freely.

-- Properties of the texts of a shelf, if they are known.
pub use Rattle.roman_opening.proofs.EndingLemmas.{told_all, told_both, told_known}
-- How a part of a run ends.
pub use Rattle.roman_opening.proofs.EndingLemmas.{IsSaid, ends_weaker, opened_from, put_ends}
-- The result of opening a document.
pub use Rattle.roman_opening.proofs.EndingLemmas.{accepted_is, away_is_run, on_accepted, opens_within, work_of}
pub use Rattle.roman_opening.proofs.OpeningLemmas.{opens_fault, opens_none, same_outputs, seated_start}
