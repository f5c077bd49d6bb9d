-- The lemmas of this crate that proofs of other crates may cite. All else in proofs/ can be renamed freely.

-- The bytes that several puts wrote together.
pub use Rattle.roman_io.proofs.SinkLemmas.{Puts-after, Wrote-nil, Wrote-then, WrotePrefix-after, WrotePrefix-append}
-- The bytes that several takes moved together, and the bytes that the source had.
pub use Rattle.roman_io.proofs.SourceLemmas.{Gave-nil, Gave-then, Gave-told, gave_at_most, had_all, had_more}
