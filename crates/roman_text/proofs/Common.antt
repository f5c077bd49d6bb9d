-- Re-exports the names that the proof pages of this crate use from other crates. Declares nothing.
pub use Rattle.std.proofs.Common.{Bool, Err, IsErrAnd, List, None, Ok, Option, Result, Some, [], ap, append_assoc, ap₂, arith, codes, cond, drop, drop-cons, false, filter, get_or, inl, inr, length, length-drop, length-take-le, map, min, nat_eq, not, refl, subst, suc, sym, take, take-add, true, unwrap_or, w8, zero, ℕ, ◌&&◌, ◌++◌, ◌+◌, ◌-◌, ◌<◌, ◌==◌, ◌||◌, ◌∙◌, ◌∷◌, ◌≡◌, ◌≢◌, ◌≤◌}
pub use Rattle.std.proofs.Math.Dec.{ltb}
pub use Rattle.std.proofs.lemmas.Bool.{both_ways, cond-true, lt-ltb, or_from}
pub use Rattle.std.proofs.lemmas.Bool.Decides.{nat_tests}
pub use Rattle.std.proofs.lemmas.List.{append-nil, append_cancel_left, drop_all, drop_at, length-take, take-append-drop, take-append-le, take_all, take_at, take_min}
pub use Rattle.std.proofs.lemmas.List.Folds.{list_any-append}
pub use Rattle.std.proofs.lemmas.List.Splits.{slice_split-cons_no, slice_split-cons_yes}
pub use Rattle.std.proofs.lemmas.List.Sums.{passes_at_first, position_or_len_is, prefix_len-le-length}
pub use Rattle.std.proofs.lemmas.Result.{err_from_is_err_and}
pub use Rattle.std.proofs.lemmas.Simd.{bitmask_splat, length-chunk, put_chunk_whole, run_in_chunk_fails, run_in_chunk_stops, trailing_mask_l}
pub use Rattle.std.proofs.lemmas.Slice.Eq.{bytes_eq-Decides}
pub use Rattle.std.specs.List.{position, position_or_len, slice_split}
pub use Rattle.std.specs.Str.{bytes_eq}
pub use Rattle.std.specs.Str.Lines.{strip_carriage_return}
pub use Rattle.itoa.proofs.Decimal.{length_four, length_one, length_pair, length_two}
pub use Rattle.roman_io.proofs.CallerLemmas.{Puts-after, Wrote-nil, Wrote-then, WrotePrefix-after, WrotePrefix-append}
pub use Rattle.roman_io.specs.Sink.{Puts, Wrote, WrotePrefix}
pub use Rattle.roman_model.proofs.CallerLemmas.{by_test, ended_lines-text, ended_lines_last, from_push, lines-text, lines_last, text_of_lines-push}
pub use Rattle.roman_model.specs.Lines.{IsLine, ended_lines, lines, onto_ended_line, text_of_lines}
pub use Rattle.roman_model.specs.System.{has}
pub use borrow.Author.Tests.{eqb-true, le-ltb, ltb-true, not-true}
pub use lib.Count.{count_trailing_zeros}
pub use lib.Lanes.{chunk, mask_l}
pub use Rattle.roman_text.specs.Lines.{IsSplit, is_newline}
unfoldable pub use Rattle.roman_text.specs.Lines.{line_head, unfinished}
pub use Rattle.roman_text.specs.Pages.{Gathered, Gathers}
pub use Rattle.roman_text.specs.Shapes.{LineShape, abort, by_words, delegate, die, explain, freeze, has_bytes, is_blank, is_comment, is_word_byte, join, jump, jump_env, nothing, observe, quit, report, request, shape_of_words, spelling, thaw, with_four}
unfoldable pub use Rattle.roman_text.specs.Shapes.{shape_of, words_of}
pub use Rattle.roman_text.specs.declared.errors.LineError.{LineError}
pub use Rattle.roman_text.specs.declared.errors.LineError.TheVariants.{Form, TooLong}
