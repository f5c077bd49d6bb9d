-- Re-exports the names that the proof pages of this crate use from other crates. Declares nothing.
pub use Rattle.std.proofs.Common.{Bool, IsFalse, IsTrue, List, Some, [], ap, append-nil, append_assoc, arith, bit_and, cond, drop, false, filter, inl, inr, length, ltb, not, refl, rules, slice_get, slice_index, subst, suc, sum_by, sym, take, take-append-drop, true, zero, ℕ, ◌%◌, ◌&&◌, ◌*◌, ◌++◌, ◌+◌, ◌-◌, ◌/◌, ◌<◌, ◌==◌, ◌^◌, ◌↔◌, ◌∙◌, ◌∷◌, ◌≡◌, ◌≢◌, ◌≤◌, ◌⊎◌}
pub use Rattle.std.proofs.Math.Bool.{not-not, or-false}
pub use Rattle.std.proofs.Math.Nat.{div-le_self, le-div_iff_mul-le}
pub use Rattle.std.proofs.Math.Seq.{take-add, take-append_seam, take-length}
pub use Rattle.std.proofs.lemmas.Bool.{and_from, and_parts, both_ways, cases_eq, cases_lt, eq-eqb, eqb-true, false_from_ne_true, lt-ltb, ltb-true, ne_eqb, not-false, not-true, not_from_false, not_from_true, or_cases, or_left, or_right}
pub use Rattle.std.proofs.lemmas.Grind.{common_steps}
pub use Rattle.std.proofs.lemmas.List.{drop-append-le, drop_all, get_or-append_right, get_or-drop, get_or-take, get_or_append_left, get_or_past, length-drop, length-take, length-take-le, length_push, nil_from_length, take-take}
pub use Rattle.std.proofs.lemmas.List.Folds.{list_any-append}
pub use Rattle.std.proofs.lemmas.List.Sums.{count_by-le-length, sum_by_push}
pub use Rattle.std.proofs.lemmas.Map.Keys.{IsDistinct-head, IsDistinct-tail}
pub use Rattle.std.proofs.lemmas.Nat.{and_le_l, div-add-mod', div_below, mod_below, mul-le, row_fits, same_from_place}
pub use Rattle.std.proofs.lemmas.Nat.Bits.{bit_at-zero}
pub use Rattle.std.proofs.lemmas.Option.{get_or_from_slice_get, slice_get_within}
pub use Rattle.std.specs.Int.{bit_at}
pub use Rattle.std.specs.List.{IsDistinct}
pub use Rattle.std.specs.Prelude.{count_by}
pub use Rattle.roman_joint.specs.NamedSys.{IsNamedSys, NamedSys, system_of}
pub use Rattle.roman_joint.specs.Pairs.{arena_of}
pub use Rattle.roman_lanes.proofs.CallerLemmas.{on_and, on_zero}
unfoldable pub use Rattle.roman_lanes.specs.Flags.{has_flag}
pub use Rattle.roman_lanes.specs.Rows.{AreRows, HasLanes, Keeps}
unfoldable pub use Rattle.roman_lanes.specs.Rows.{is_on}
pub use Rattle.roman_model.proofs.CallerLemmas.{AreNumbers, any_from, any_same, any_true, by_test, contains_in, fall_append, from_below, from_flat_map, from_map, great_related, in_append_left, in_append_right, in_below, in_flat_map, in_listed, in_map, justified_more, justified_same, length-below, listed_append, listed_in, listed_push, loses_up, none_from, numbered_choices, numbered_completed_by, numbered_is_same, numbered_listed, numbered_related_count, numbers_are_pairs, order_entry, order_push, related_great, same_test, sum_by_same, sum_by_within, unallowed_unjustified}
pub use Rattle.roman_model.specs.Arena.{Arena, Delegation, Entry, IsOrder, back, choices, fall, is_justified, is_listed, loses, mask}
pub use Rattle.roman_model.specs.Composition.{Great}
pub use Rattle.roman_model.specs.Lists.{IsIn, below}
pub use Rattle.roman_model.specs.Numbers.{count, numbered, pair_at, sizes_of}
pub use Rattle.roman_model.specs.Offers.{choice_count, is_related}
pub use Rattle.roman_model.specs.System.{Sys}
pub use Rattle.roman_model.specs.SystemArena.{pairs}
pub use Rattle.roman_model.specs.declared.reason.Reason.{Reason}
pub use Rattle.roman_model.specs.declared.reason.Reason.TheVariants.{Act, Final}
pub use Rattle.roman_order.proofs.CallerLemmas.{all_in, has_entry-batch, in_lanes, lane_place, length-entries_at, on_in, rewritten_whole, some_lane}
pub use Rattle.roman_order.specs.Board.{Board, as_entry, entries_in, entries_in_rows, has_entry, is_marked, nodes_of, pairs_of, set_lanes}
pub use Rattle.roman_order.specs.Batches.{IsBatch, entries_at}
pub use Rattle.roman_order.specs.ReadAhead.{AreUnkept}
pub use Rattle.roman_order.specs.declared.batch.Batch.{Batch}
pub use Rattle.roman_rules.proofs.CallerLemmas.{numbered_same, sum_below_more, sum_further, sum_turned}
pub use Rattle.roman_rules.specs.Bits.{bit_of}
pub use Rattle.roman_rules.specs.Numbered.{IsNumbered}
pub use Rattle.roman_relation.specs.Greatest.{HasCaps, HasCompleteList}
pub use Rattle.roman_relation.specs.Rounds.{AddsLost, AddsTo, AreLostRows, AreNoted, AreUnlisted, AwaitsRound, IsJudged, falls, has_band, moves_noted, moves_to}
pub use Rattle.roman_relation.specs.Settled.{AddsUnfine, AreLevels, Begins, HoldsLost, IsFineOrListed, IsSettled, RisesByDepth, SettlesOn}
pub use Rattle.roman_relation.specs.Shaped.{IsShaped}
