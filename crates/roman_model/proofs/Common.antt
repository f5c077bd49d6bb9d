-- Re-exports the names that the proof pages of this crate use from other crates. Declares nothing.
pub use Rattle.std.proofs.Common.{All, Bool, Contains, IsFalse, IsTrue, List, None, Option, Some, [], add-one, ap, append-nil, append_assoc, ap₂, arith, codes, cond, count_by, count_ones, decimal, drop, drop-cons, false, filter, find, flat_map, get_or, if◌then◌else◌, inl, inr, le-leb, length, length-append, length-drop, length-take, map, nat_le, nat_lt, not, option_map, pred, refl, remove, rules, slice_get, slice_index, slice_index_or, slice_set, subst, suc, sum_by, sym, take, take-append-drop, true, zero, ℕ, ◌%◌, ◌&&◌, ◌*◌, ◌++◌, ◌+◌, ◌-◌, ◌/◌, ◌<◌, ◌==◌, ◌^◌, ◌||◌, ◌↔◌, ◌∙◌, ◌∷◌, ◌≡◌, ◌≢◌, ◌≤◌, ◌⊎◌}
pub use Rattle.std.proofs.Math.Bool.{not-not, or-false, or-true}
pub use Rattle.std.proofs.Math.Nat.{div-lt_iff_lt-mul, le-max_left, le-max_right, max-le}
pub use Rattle.std.proofs.Math.Pow.{pow_pos}
pub use Rattle.std.proofs.Math.Seq.{get_or-append_seam, take-append-add}
pub use Rattle.std.proofs.lemmas.Bool.{and_cases, and_from, and_left, and_parts, both_ways, cases_eq, cases_lt, cases_order, cond-false, cond-true, eq-eqb, eqb-true, false≢true, leb-false, leb-true, lt-leb, lt-ltb, ltb-true, ne_eqb, not-false, not-true, not_from_false, not_from_true, or_cases, or_from, or_left, or_parts, or_right, true≢false}
pub use Rattle.std.proofs.lemmas.Fmt.{decimal_by_steps, decimal_injective, decimal_nonempty, length-decimal-le}
pub use Rattle.std.proofs.lemmas.Grind.{flat_map-append}
pub use Rattle.std.proofs.lemmas.List.{drop-map, drop_all, drop_more, get_or-set_same, get_or_append_left, get_or_push, length-map, length_push, map-append, map_push, same_from_push, take-append-le, take-map, take_all, take_at}
pub use Rattle.std.proofs.lemmas.List.Concat.{length-flat_map}
pub use Rattle.std.proofs.lemmas.List.Elements.{All-contains, AllZip-get_or, filter-append, filter_map-append}
pub use Rattle.std.proofs.lemmas.List.Filters.{length-filter_both}
pub use Rattle.std.proofs.lemmas.List.Folds.{find-append, flat_map-map, list_any-append}
pub use Rattle.std.proofs.lemmas.List.Sums.{length-filter, sum_by-append, sum_by-cons, sum_by_push}
pub use Rattle.std.proofs.lemmas.Nat.{div-mul-add, div_below, mod-mul-add, mod-pow-add, mod_below, mul-add-lt, mul-le, ones_cat, ones_le_self, same_from_place, zero_from_ones}
pub use Rattle.std.proofs.lemmas.Nat.Bits.{bit_at-lt}
pub use Rattle.std.proofs.lemmas.Option.{get_or_from_slice_get, none-some, same_Some, slice_get-get_or, slice_get-map, slice_get_past, slice_get_within}
pub use Rattle.std.proofs.lemmas.Slice.Zip.{AllZip-long}
pub use Rattle.std.specs.Int.{bit_at}
pub use Rattle.std.specs.List.{AllZip, cons_option, list_any}
pub use Rattle.std.specs.Option.{option_or, option_to_list}
pub use Rattle.std.specs.Prelude.{max}
pub use Rattle.roman_model.specs.Arena.{AreNew, Arena, Delegation, Entry, IsOrder, IsOrderFrom, back, choices, delegations, depth, fall, is_among, is_beaten, is_justified, is_listed, loses, mask, readings, replay, replay_from}
pub use Rattle.roman_model.specs.Certificate.{Form, Greatest, GreatestIsComplete, IsClean, IsWithinCells, Rejected, TooLong, Unlisted, Verdict, Why, WrittenIsGreatest, body_fault, cert_lines, cert_text, cert_verdict, could_be_listed, count_line, end_fault, end_line, entries_on, entry_fault, entry_line, entry_of, faults, greatest, head_line, line_fault, possible_entries, reason_text, reasons, unless_is, unless_over, unlisted}
pub use Rattle.roman_model.specs.Change.{CanChange, Change, Die, Freeze, Join, KeepsAll, RenamedReplays, RenamingKeeps, Thaw, after, entry_without, firsts, grown, grown_entries, may_go, rename, set_frozen, without}
pub use Rattle.roman_model.specs.Combined.{CombinedIsAll, IsSeveral, all_requests, combined, combined_beh, combined_seat, combined_start, has_move_on, has_triple_on, member_goes, requests_of, stands_in, target_sizes, targets_go, uses}
pub use Rattle.roman_model.specs.CompleteLists.{AreEntries, IsComplete}
pub use Rattle.roman_model.specs.Composition.{Couple, Great, GreatCouple, IsNdSim, Meets, Serves, couple}
pub use Rattle.roman_model.specs.Counting.{Counts}
pub use Rattle.roman_model.specs.Explanation.{ExplanationIsLeast, ExplanationIsOrder, IsClosed, IsLeastClosed, answer, answers, entries_before, explanation, ready_seats, rests_on}
pub use Rattle.roman_model.specs.Laws.{NumberedCompletes, OrderCompletes}
pub use Rattle.roman_model.specs.Lines.{AreLines, IsLine, ended_lines, lines, text_of_lines}
pub use Rattle.roman_model.specs.Lists.{HasNoRepeats, IsIn, IsSublist, all_below, below, is_empty, product_of}
pub use Rattle.roman_model.specs.Made.{beh_from, env_from, guarded_step}
pub use Rattle.roman_model.specs.NumberedChange.{first_numbers, grown_numbers, number_entry_without, number_without, rename_numbers}
pub use Rattle.roman_model.specs.Numbers.{AreBelow, IsCompleteList, IsPairOf, NumbersArePairs, Sizes, count, entry_at, grown_sizes, number, numbered, pair_at, sizes_of, sizes_without, states_at, states_number}
pub use Rattle.roman_model.specs.Offers.{OffersAreGenerator, choice_count, is_related, offers, related_count}
pub use Rattle.roman_model.specs.Plans.{Costs, IsChoice, IsPlan, Leaf, Node, Plan, PlansCostLeast, allowed_actions, choice, chosen, first_least, least, least_at, least_from, max_over, through, worst}
pub use Rattle.roman_model.specs.Play.{AreSeats, DepthIsLeast, DepthWins, HoldsOut, OrderWins, WinsWithin, depth_play, depth_play_at, has_ready, play, play_at, reason_of, refuting, request_at, went_on}
pub use Rattle.roman_model.specs.Several.{CoupleAll, GreatAll, MeetsAll, ServesAll, Several, are_final, of_one}
pub use Rattle.roman_model.specs.System.{Allows, Beh, Env, IsBeh, IsDeterministic, IsEnv, IsPair, IsSys, Move, Pair, SStep, Seat, Sys, TStep, Triple, all_final, has, has_move, has_triple, is_final}
pub use Rattle.roman_model.specs.SystemArena.{arena, beh_next, beh_prev, combinations, env_next, env_prev, is_allowed, is_fine, is_ready, outcomes, outcomes_by, pairs, same_numbers, same_pair, seat_next}
pub use Rattle.roman_model.specs.Without.{WithoutByChanges, freeze_at, leave_out}
pub use Rattle.roman_model.specs.declared.limits.TheConstants.{MAX_ACTIONS, MAX_CELLS, MAX_CERTIFICATE_BYTES, MAX_SERVICES, MAX_STATES}
pub use Rattle.roman_model.specs.declared.reason.Reason.{Reason}
pub use Rattle.roman_model.specs.declared.reason.Reason.TheVariants.{Act, Final}
pub use Rattle.roman_model.specs.declared.request.Request.{Request}
