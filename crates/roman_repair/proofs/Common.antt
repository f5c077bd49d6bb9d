-- Re-exports the names that the proof pages of this crate use from other crates. Declares nothing.
pub use Rattle.std.proofs.Common.{Bool, IsFalse, IsTrue, List, None, Option, Some, [], add-one, ap, append-nil, append_assoc, ap₂, arith, bit_and, bit_or, cond, count_by, drop, eqb, false, filter, flat_map, if◌then◌else◌, inl, inr, length, length-append, map, not, refl, remove, replicate, rules, slice_get, slice_index, subst, suc, sum_by, sym, true, zero, ℕ, ◌%◌, ◌&&◌, ◌*◌, ◌++◌, ◌+◌, ◌-◌, ◌/◌, ◌<◌, ◌==◌, ◌^◌, ◌||◌, ◌∙◌, ◌∷◌, ◌≡◌, ◌≢◌, ◌≤◌}
pub use Rattle.std.proofs.Math.Bool.{and-true, not-not, or-false}
pub use Rattle.std.proofs.Math.Nat.{div-mul-le_self, lt-div-mul-add, mul-le-mul_left}
pub use Rattle.std.proofs.Math.Pow.{pow-lt}
pub use Rattle.std.proofs.lemmas.Bool.{and_from, and_parts, and_right, both_ways, cases_Bool, cases_eq, cases_lt, eq-eqb, eqb-true, false_from_ne_true, false≢true, le-ltb, lt-ltb, ne_eqb, or_cases, or_from, or_left, or_right}
pub use Rattle.std.proofs.lemmas.List.{get_or-replicate, get_or_append_left, length-map, length_push, map-append, set-append_left, take-map}
pub use Rattle.std.proofs.lemmas.List.Concat.{flat_map-append}
pub use Rattle.std.proofs.lemmas.List.Folds.{flat_map-map, list_any-append}
pub use Rattle.std.proofs.lemmas.List.Sums.{sum_by-append, sum_by-cons}
pub use Rattle.std.proofs.lemmas.Nat.{and_le_l, div-add-mod', div-mul-add, mod_below, same_from_place, shr_le}
pub use Rattle.std.proofs.lemmas.Nat.Bits.{bit_at-trailing_zeros, shr_and_one}
pub use Rattle.std.proofs.lemmas.Option.{same_Some, slice_get_past}
pub use Rattle.std.specs.Int.{bit_not, trailing_zeros, w64}
pub use Rattle.std.specs.List.{list_any}
pub use Rattle.roman_joint.proofs.CallerLemmas.{Behaves, behaves, in_sizes, joint_numbered, on_below, on_shl, seat_read}
pub use Rattle.roman_joint.specs.Behaviours.{IsSeatBehaviour}
pub use Rattle.roman_joint.specs.Changes.{with_frozen}
pub use Rattle.roman_joint.specs.NamedSys.{IsNamedSys, NamedSys, seat_of, system_of}
pub use Rattle.roman_joint.specs.Pairs.{arena_of}
pub use Rattle.roman_joint.specs.Rows.{lanes_in}
pub use Rattle.roman_lanes.proofs.CallerLemmas.{on_and, on_full, on_full_past, on_less, on_not, on_ones, on_ones_above, on_or, on_zero}
pub use Rattle.roman_lanes.specs.Rows.{HasLanes, Keeps}
unfoldable pub use Rattle.roman_lanes.specs.Rows.{is_on}
pub use Rattle.roman_model.proofs.CallerLemmas.{AreNumbers, HasNoRepeats-below, HasNoRepeats-flat_map, HasNoRepeats-map, IsPairOf-from, NumbersReplay, all_below_from, any_from, any_true, by_test, complete_order, count-without, filter_below_more, filter_same, flat_map_same, from_below, from_flat_map, from_map, get_front, in_append_left, in_append_right, in_below, in_flat_map, in_map, is_fine-turned, justified_is, justified_more, justified_same, left, length-below, length-set_frozen, length-states_at, list_any-map, listed_among, listed_append, map-flat_map, map-map, map_same_in, middle_first, moved_named, new_once, number-grown, number_allows-turned, number_without-is, numbered_is_same, numbers_are_pairs, numbers_replay, order_justified, order_new, outcome_pair, outcomes-turned, pair_at-grown, part_at, product_append, readings_at, readings_within, replay_from_same, size_at, sizes-joined, sizes-left, sizes-turned, sum_by_within, there_is, turned}
pub use Rattle.roman_model.specs.Arena.{Arena, Entry, IsOrder, IsOrderFrom, fall, is_among, is_beaten, is_justified, is_listed, readings, replay}
pub use Rattle.roman_model.specs.Change.{CanChange, Change, Die, Freeze, Join, KeepsAll, Thaw, after, grown, may_go, set_frozen, without}
pub use Rattle.roman_model.specs.Lists.{HasNoRepeats, IsIn, all_below, below, is_empty, product_of}
pub use Rattle.roman_model.specs.NumberedChange.{first_numbers, grown_numbers, number_entry_without, number_without, rename_numbers}
pub use Rattle.roman_model.specs.Numbers.{Sizes, count, number, numbered, pair_at, sizes_of, sizes_without}
pub use Rattle.roman_model.specs.System.{IsSys, Pair, Seat, Sys, all_final, is_final}
pub use Rattle.roman_model.specs.SystemArena.{is_allowed, is_fine, is_ready, outcomes, outcomes_by, seat_next}
pub use Rattle.roman_model.specs.declared.reason.Reason.{Reason}
pub use Rattle.roman_model.specs.declared.reason.Reason.TheVariants.{Act, Final}
pub use Rattle.roman_order.proofs.CallerLemmas.{in_lanes, lanes_once, no_lane, none_below, on_in, on_lowered, one_pow, set_lanes-joined, set_lanes-zero, some_lane}
pub use Rattle.roman_order.specs.Board.{Board, as_entry, entries_in, has_entry, nodes_of, pairs_of}
unfoldable pub use Rattle.roman_order.specs.Board.{set_lanes}
pub use Rattle.roman_order.specs.Batches.{IsBatch, entries_at}
pub use Rattle.roman_order.specs.declared.batch.Batch.{Batch}
pub use Rattle.roman_parts.specs.Named.{NamedBeh}
pub use Rattle.roman_radix.proofs.CallerLemmas.{AreSizes-index, lanes_few, lanes_positive, row_below, row_div, row_mod, tails_from}
pub use Rattle.roman_radix.specs.Radix.{AreSizes, IsSizes, stride_of}
pub use Rattle.roman_radix.specs.Rows.{lanes_of, low_of}
pub use Rattle.roman_relation.proofs.CallerLemmas.{listed_numbers, room_for_pairs, words_rows}
pub use Rattle.roman_relation.specs.Greatest.{HasCaps, IsRelation}
pub use Rattle.roman_relation.specs.Shaped.{IsShaped}
pub use Rattle.roman_relation.specs.declared.relation.Relation.{Relation}
pub use Rattle.roman_rules.proofs.CallerLemmas.{count_below_more, readings_of-allowed}
pub use Rattle.roman_rules.specs.Probes.{IsReasonOf, readings_of_reason}
pub use Rattle.roman_rules.specs.Numbered.{IsNumbered}
pub use Rattle.roman_repair.specs.Alone.{AreKept, IsSeatOf, MayProbeAlone, passes, probes_of, without_seat}
pub use Rattle.roman_repair.specs.BandProbes.{HoldsInBand, IsKnown}
pub use Rattle.roman_repair.specs.Deaths.{AreInGroup, IsGroup, IsWithin, Renames, entries_from, list_with}
pub use Rattle.roman_repair.specs.Growing.{CanGrow, CanReadmit, HasReplayedAll, IsGrown, entries_grown, list_grown, replay_grown}
pub use Rattle.roman_repair.specs.Judging.{CanReplay, CanReplayBatch, GoesOnTo, HasJudged, HasJudgedFront, Replays}
pub use Rattle.roman_repair.specs.Lanes.{HasFront, HasLanesBetween, IsCutAt, IsFirstGroup, IsSpread}
pub use Rattle.roman_repair.specs.Repairs.{IsBegun, IsRepaired, IsSettledOn}
pub use Rattle.roman_repair.specs.Replays.{AreCandidates, AreSlices, candidates, is_possible, readings_of_entries, with_replay}
pub use Rattle.roman_repair.specs.declared.band_probe.BandProbe.{BandProbe}
pub use Rattle.roman_repair.specs.declared.replaying.Newcomer.{Newcomer}
pub use Rattle.roman_repair.specs.declared.tally.Tally.{Tally}
