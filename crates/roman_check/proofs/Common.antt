-- Re-exports the names that the proof pages of this crate use from other crates. Declares nothing.
pub use Rattle.std.proofs.Common.{Bool, IsFalse, IsTrue, List, None, Option, Some, [], add-one, ap, append-nil, append_assoc, ap₂, arith, bit_and, bit_or, codes, cond, count_by, decimal, drop, eqb, false, find, get_or, if◌then◌else◌, inl, inr, length, length-append, length-drop, length-take-le, nat_lt, not, option_map, refl, replicate, rules, set, subst, suc, sym, take, true, zero, ℕ, ◌%◌, ◌&&◌, ◌*◌, ◌++◌, ◌+◌, ◌-◌, ◌/◌, ◌<◌, ◌==◌, ◌^◌, ◌||◌, ◌∙◌, ◌∷◌, ◌≡◌, ◌≢◌, ◌≤◌}
pub use Rattle.std.proofs.Math.Bool.{or-false}
pub use Rattle.std.proofs.lemmas.Bool.{both_ways, cases_eq, cases_lt, cases_order, cond-false, cond-true, eq-eqb, eqb-true, false≢true, lt-ltb, ne_eqb, not-false, not-true, or_from, or_left, or_right}
pub use Rattle.std.proofs.lemmas.Bool.Decides.{Decides-eqb}
pub use Rattle.std.proofs.lemmas.Fmt.{decimal-digits_value, decimal_digit, decimal_is_IsNumeral, decimal_step, first_decimal, length-decimal-le}
pub use Rattle.std.proofs.lemmas.Grind.{same_number_lists}
pub use Rattle.std.proofs.lemmas.Int.Digits.{digits_more, digits_value_more}
pub use Rattle.std.proofs.lemmas.List.{drop-take, drop_more, get_or-drop, get_or-replicate, get_or-set_other, get_or-set_same, get_or-take, get_or_at, get_or_read, length-replicate, length-set, length-take, nil_from_length, take-append-drop, take-take, take_all, take_at, take_more, take_rest}
pub use Rattle.std.proofs.lemmas.List.Elements.{filter_map-append}
pub use Rattle.std.proofs.lemmas.List.Folds.{list_any-append}
pub use Rattle.std.proofs.lemmas.List.Quantifiers.{position-Some}
pub use Rattle.std.proofs.lemmas.List.Sums.{fails_before_first, length-filter, sum_by_push}
pub use Rattle.std.proofs.lemmas.Nat.{mul-le, row_fits, same_from_place}
pub use Rattle.std.proofs.lemmas.Nat.Bits.{bit_at-trailing_zeros}
pub use Rattle.std.proofs.lemmas.Option.{none-some}
pub use Rattle.std.proofs.lemmas.Result.{err_from_is_err_and}
pub use Rattle.std.proofs.lemmas.Slice.Eq.{slice_eq-Decides, strip_prefix_is}
pub use Rattle.std.proofs.lemmas.Str.{digit_value_digit}
pub use Rattle.std.proofs.lemmas.Str.Parse.{IsNumeralModel, digit_at, digits_value_short, numerals_by_value, tells_digits}
pub use Rattle.std.specs.Char.{digit_value}
pub use Rattle.std.specs.Cmp.Lexicographic.{pointwise}
pub use Rattle.std.specs.Int.{IsInRange, IsOutOfRange, bit_at, trailing_zeros, w64}
pub use Rattle.std.specs.List.{cons_option, filter, list_any, position, position_or_len}
pub use Rattle.std.specs.Prelude.{MatchOption}
pub use Rattle.std.specs.Str.Parse.{AllDigits, digits_value}
pub use Rattle.roman_io.proofs.CallerLemmas.{Gave-then, gave_at_most, had_all, had_more}
pub use Rattle.roman_io.specs.Faults.{Rose}
pub use Rattle.roman_io.specs.Source.{EndsAt, Gave, GaveAtMost, IsAtEnd}
pub use Rattle.roman_lanes.proofs.CallerLemmas.{on_and, on_full, on_full_past, on_or, on_zero}
pub use Rattle.roman_lanes.specs.Rows.{AreRows, HasLanes}
unfoldable pub use Rattle.roman_lanes.specs.Rows.{is_on}
pub use Rattle.roman_model.proofs.CallerLemmas.{AreFew, act_reason, append_line, by_test, clean_push, cut_at, decimal_without, due_is, ended_lines-text, ended_lines_last, entry_is_line, entry_is_no_end, entry_of-is, entry_of-line, entry_of_none, entry_of_other, fault_after_end, fault_in_body, faults_none, find_first, find_not_found, from_below, from_map, from_possible, from_push, in_possible, lines-text, lines_last, list_any-map, none_from, possible_small, same_numbers_is, same_numbers_itself, same_test, sum_by_same, text_of_lines-push, verdict_accepted, verdict_at, verdict_ended, verdict_rejected, verdict_too_long}
pub use Rattle.roman_model.specs.Arena.{Arena, Entry, is_justified, is_listed}
pub use Rattle.roman_model.specs.Certificate.{IsClean, Rejected, body_fault, cert_verdict, could_be_listed, count_line, end_fault, end_line, entries_on, entry_fault, entry_of, faults, head_line, line_fault, reason_text, reasons, unless_is, unlisted}
pub use Rattle.roman_model.specs.Lines.{IsLine, ended_lines, lines, text_of_lines}
pub use Rattle.roman_model.specs.Lists.{IsIn, below}
pub use Rattle.roman_model.specs.System.{has}
pub use Rattle.roman_model.specs.SystemArena.{same_numbers}
pub use Rattle.roman_model.specs.declared.limits.TheConstants.{MAX_CERTIFICATE_BYTES}
pub use Rattle.roman_model.specs.declared.reason.Reason.{Reason}
pub use Rattle.roman_model.specs.declared.reason.Reason.TheVariants.{Act, Final}
pub use Rattle.roman_rules.proofs.CallerLemmas.{known_more}
pub use Rattle.roman_rules.specs.Probes.{HoldsWhereKnown, IsReasonOf}
pub use Rattle.roman_rules.specs.Numbered.{IsNumbered}
pub use Rattle.roman_rules.specs.declared.probe.RowProbe.{RowProbe}
pub use Rattle.roman_check.specs.Audits.{HasListed, HasRead, IsInRows, Judges, TakesEntry, due_after}
pub use Rattle.roman_check.specs.Checks.{HaveVerdict, NoneAtFault}
pub use Rattle.roman_check.specs.Decimals.{HasDigits, IsNumberTo, IsTrim}
pub use Rattle.roman_check.specs.Lines.{Holds, IsPattern}
pub use Rattle.roman_check.specs.Readers.{Closes, EndsLine, HasLines, HasReached, IsAtFault, IsBetween, IsReading, ReadsPart, SplitsAfter, one_if_clean}
pub use Rattle.roman_check.specs.Readings.{HasEntry, HasParts, IsEndedAt, ReadsOff, entry_with}
pub use Rattle.roman_check.specs.Remain.{Clears, NoneMissing, Remain, Removes, could_be_by}
pub use Rattle.roman_check.specs.Verdicts.{fault_of}
pub use Rattle.roman_check.specs.declared.audit.Audit.{Audit}
pub use Rattle.roman_check.specs.declared.audit.Due.{Due}
pub use Rattle.roman_check.specs.declared.audit.Due.TheVariants.{Body, Count, Head, Nothing}
pub use Rattle.roman_check.specs.declared.line.Line.{Line}
pub use Rattle.roman_check.specs.declared.pattern.Shape.{Shape}
pub use Rattle.roman_check.specs.declared.reader.Reader.{Reader}
pub use Rattle.roman_check.specs.declared.table.Remaining.{Remaining}
pub use Rattle.roman_check.specs.declared.verdict.Why.{Why}
pub use Rattle.roman_check.specs.declared.verdict.Why.TheVariants.{Form}
