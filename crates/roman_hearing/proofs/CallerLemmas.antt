-- The lemmas of this crate that proofs of other crates may cite. All else in proofs/ can be renamed freely.

-- Steps lead from well-formed situations to well-formed ones.
pub use Rattle.roman_hearing.proofs.KnownLemmas.{steps_known}
-- Steps change only the services, and consequences of the conditions of a step.
pub use Rattle.roman_hearing.proofs.KeepLemmas.{line_keeps, needs_elim, unless_elim}
-- Each step is a turn, and open requests can be served.
pub use Rattle.roman_hearing.proofs.TurnLemmas.{open_great, steps_turns}
-- The system of a document with several targets combines them.
pub use Rattle.roman_hearing.proofs.SeveralLemmas.{means_all, parts_are, parts_in}
-- The lines that are answered.
pub use Rattle.roman_hearing.proofs.HearingLines.{answered_heard}
-- How a session that is read from a source ends.
pub use Rattle.roman_hearing.proofs.HearingEnds.{short_out}
-- Two parts of a list with the same elements are equal, and so are two counts of the same pairs.
pub use Rattle.roman_hearing.proofs.FixedLemmas.{count_fixed, sublists_same}
