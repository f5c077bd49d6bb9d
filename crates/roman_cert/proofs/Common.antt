-- Re-exports the names that the proof pages of this crate use from other crates. Declares nothing.
pub use Rattle.std.proofs.Common.{Bool, Err, IsFalse, IsTrue, List, None, Ok, OnOk, Option, Result, Some, [], add-one, ap, append-nil, append_assoc, ap₂, arith, codes, cond, decimal, drop, drop-cons, eqb, false, filter, find, flat_map, get_or, inl, inr, length, length-append, length-drop, length-take, map, refl, rules, set, slice_index, slice_index_or, subst, suc, sym, take, take-add, take-append-drop, true, zero, ℕ, ◌%◌, ◌&&◌, ◌*◌, ◌++◌, ◌+◌, ◌-◌, ◌/◌, ◌<◌, ◌^◌, ◌||◌, ◌∙◌, ◌∷◌, ◌≡◌, ◌≢◌, ◌≤◌, ◌⊎◌}
pub use Rattle.std.proofs.Math.Bool.{or-false}
pub use Rattle.std.proofs.Math.Dec.{ltb}
pub use Rattle.std.proofs.lemmas.Bool.{and_parts, both_ways, cases_Bool, cond-false, cond-true, eq-eqb, false≢true, le-ltb, lt-ltb, or_cases, or_left, or_parts, or_right}
pub use Rattle.std.proofs.lemmas.Fmt.{decimal_digit}
pub use Rattle.std.proofs.lemmas.Grind.{flat_map-append}
pub use Rattle.std.proofs.lemmas.List.{drop_all, get_or-drop, get_or-set_other, get_or-set_same, length-map, length-set, take-set-le}
pub use Rattle.std.proofs.lemmas.List.Folds.{flat_map-map, list_any-append}
pub use Rattle.std.proofs.lemmas.Option.{get_or_from_slice_get, slice_get-get_or, slice_get_within}
pub use Rattle.std.proofs.lemmas.Result.{err_from_is_err_and}
pub use Rattle.std.specs.List.{join_with_byte, list_any, position_from, slice_get}
pub use Rattle.std.specs.Option.{option_map, option_to_list}
pub use Rattle.itoa.proofs.Decimal.{decimal_pair, decimal_two, pair}
pub use Rattle.roman_io.proofs.CallerLemmas.{Puts-after}
pub use Rattle.roman_io.specs.Sink.{Puts, WrotePrefix}
pub use Rattle.roman_joint.proofs.CallerLemmas.{if_some}
pub use Rattle.roman_joint.specs.NamedSys.{IsNamedSys, NamedSys, seat_of, system_of}
pub use Rattle.roman_joint.specs.Names.{names_in, names_of_seat}
pub use Rattle.roman_joint.specs.Pairs.{arena_of}
pub use Rattle.roman_model.proofs.CallerLemmas.{AreNumbers, IsSame, among_in, answer_at, answer_before, any_from, any_true, any_within, before_falls, before_is, by_test, complete_order, empty_is, explanation_at, explanation_is_least, explanation_is_order, filter_same, find_some, from_append, get_in, get_or-below, in_append_right, in_map, justified_is, length-below, length-states_at, list_any-flat_map, not_empty_in, numbered_is_arena, numbers_are_pairs, order_middle, order_won, pair_number, rests_is, same_test, split_at, there_is, written_is_greatest}
pub use Rattle.roman_model.specs.Arena.{Arena, Entry, IsOrder, is_among, is_justified, is_listed}
pub use Rattle.roman_model.specs.Certificate.{IsWithinCells, cert_text, count_line, end_line, entry_line, head_line, reason_text}
pub use Rattle.roman_model.specs.Composition.{Great}
pub use Rattle.roman_model.specs.Explanation.{ExplainedOrder, SeatNames, answer, answer_line, answer_lines, answers, entries_before, entry_lines, explain_text, explanation, lost_line, name_at, ready_seats, reason_name, rests_on, seat_names, state_names}
pub use Rattle.roman_model.specs.Lines.{text_of_lines}
pub use Rattle.roman_model.specs.Lists.{IsIn, below}
pub use Rattle.roman_model.specs.Numbers.{IsCompleteList, Sizes, count, entry_at, pair_at, sizes_of}
pub use Rattle.roman_model.specs.Play.{OpponentWins}
pub use Rattle.roman_model.specs.System.{IsSys, Pair, Sys}
pub use Rattle.roman_model.specs.SystemArena.{arena, is_ready}
pub use Rattle.roman_model.specs.declared.reason.Reason.{Reason}
pub use Rattle.roman_model.specs.declared.reason.Reason.TheVariants.{Act, Final}
pub use Rattle.roman_order.proofs.CallerLemmas.{is_some-place_in_list}
pub use Rattle.roman_order.specs.Board.{Board, as_entry, has_entry, is_marked, pairs_of, place_in_list}
pub use Rattle.roman_order.specs.ReadAhead.{IsAhead}
pub use Rattle.roman_relation.proofs.CallerLemmas.{listed_is, listed_numbers}
pub use Rattle.roman_rules.proofs.CallerLemmas.{numbered_same}
pub use Rattle.roman_rules.specs.Probes.{IsReasonOf}
pub use Rattle.roman_rules.specs.Finding.{HasFinding, IsFinding}
pub use Rattle.roman_rules.specs.Numbered.{IsNumbered}
pub use Rattle.roman_rules.specs.declared.finding.Finding.{Finding}
pub use Rattle.roman_rules.specs.declared.finding.Finding.TheVariants.{Good, Leaves, NoOutcome}
pub use Rattle.roman_text.proofs.CallerLemmas.{Gathers-second, IsFilling, Puts-after_Gathered, fill_behind, fill_end, fill_failed, fill_last, fill_more, fill_same, fill_whole, gathers_failed_first}
pub use Rattle.roman_text.specs.Lines.{with_newline}
pub use Rattle.roman_text.specs.Pages.{Gathered, Gathers}
pub use Rattle.roman_cert.specs.Certified.{IsTemplate, WroteGreatest}
pub use Rattle.roman_cert.specs.Slices.{IsOrderOf}
unfoldable pub use Rattle.roman_cert.specs.Slices.{answers_text, entry_text, lost_text, marked_text}
pub use Rattle.roman_cert.specs.declared.template.Template.{Template}
