-- The lemmas of this crate that proofs of other crates may cite. All else in proofs/ can be renamed freely.

-- The lines of a text that grows.
pub use Rattle.roman_text.proofs.LineLemmas.{ended_lines-append, ended_lines-newline, ended_lines-part, line_head-again, line_head-append, line_head-nil, lines_are, lines_none, lines_only}
pub use Rattle.roman_text.proofs.LineLemmas.{lines_rest, unfinished-newline, unfinished-nil, unfinished-part}
-- The bytes that a page writes and holds, over several calls.
pub use Rattle.roman_text.proofs.PageLemmas.{Gathered-empty, Gathered-put, Gathered-then, Gathers-after, Gathers-flushed, Gathers-put, Puts-after_Gathered, gathers_failed}
pub use Rattle.roman_text.proofs.PageLemmas.{Gathers-second, WrotePrefix-gathered, gathers_failed_first}
-- A page that is being filled: the text that it has taken, and the rest of a whole text.
pub use Rattle.roman_text.proofs.Filling.{IsFilling, fill_behind, fill_end, fill_failed, fill_last, fill_more, fill_put, fill_same, fill_stops, fill_whole}
