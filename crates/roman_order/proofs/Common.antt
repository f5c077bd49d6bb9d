-- Re-exports the names that the proof pages of this crate use from other crates. Declares nothing.
pub use Rattle.std.proofs.Common.{Bool, IsTrue, List, None, Some, [], add-one, ap, append-nil, append_assoc, ap₂, arith, bit_and, bit_or, cond, count_ones, drop, eqb, false, filter, get_or, inl, inr, is_some, length, length-append, ltb, map, not, refl, replicate, rules, slice_get, subst, suc, sym, take, true, vec_capacity, zero, ℕ, ◌%◌, ◌&&◌, ◌*◌, ◌++◌, ◌+◌, ◌-◌, ◌/◌, ◌<◌, ◌^◌, ◌||◌, ◌∙◌, ◌∷◌, ◌≡◌, ◌≢◌, ◌≤◌}
pub use Rattle.std.proofs.Math.Bool.{or-false}
pub use Rattle.std.proofs.Math.ListN.{drop_of_length-le, set}
pub use Rattle.std.proofs.Math.Nat.{lt_of_mul-lt-mul_right}
pub use Rattle.std.proofs.Math.Pow.{pow-lt}
pub use Rattle.std.proofs.Math.Seq.{drop-append_seam, drop-cons, get_or-append_seam, get_or-drop, take-add, take-append_seam, take-suc}
pub use Rattle.std.proofs.lemmas.Bool.{and_from, and_parts, both_ways, cases_Bool, cases_eq, cases_lt, eq-eqb, eqb-true, false_from_ne_true, false≢true, le-ltb, lt-ltb, ne_eqb, or_cases, or_left, or_parts, or_right}
pub use Rattle.std.proofs.lemmas.Cmp.{nat_eq_equiv}
pub use Rattle.std.proofs.lemmas.Grind.{flat_map-append}
pub use Rattle.std.proofs.lemmas.List.{drop-append-le, drop-drop, drop-map, drop-set, get_or-append_right, get_or-replicate, get_or-set_other, get_or-set_same, get_or_append_left, get_or_default, get_or_past, get_or_read, length-drop, length-map, length-replicate, length-set, length-take-le, map-append, map_push, nil_from_length, replicate-append-replicate, take-append-drop, take_all}
pub use Rattle.std.proofs.lemmas.List.Filters.{length-filter_both}
pub use Rattle.std.proofs.lemmas.List.Folds.{list_any-append}
pub use Rattle.std.proofs.lemmas.List.Sums.{length-filter}
pub use Rattle.std.proofs.lemmas.Map.Keys.{IsDistinct-head, IsDistinct-push, IsDistinct-tail}
pub use Rattle.std.proofs.lemmas.Map.Made.{length-IsIntersection}
pub use Rattle.std.proofs.lemmas.Nat.{and_le_l, and_mask, div-add-mod', div_below, mod_below, mul-add-lt, same_from_place, shr-shr}
pub use Rattle.std.proofs.lemmas.Nat.Bits.{bit_at-trailing_zeros, shr_and_one}
pub use Rattle.std.proofs.lemmas.Option.{slice_get-get_or}
pub use Rattle.std.specs.Int.{bit_at, bit_not, trailing_zeros, w64}
pub use Rattle.std.specs.List.{AllByRecursion, list_any, position_from}
unfoldable pub use Rattle.std.specs.List.{IsDistinct}
pub use Rattle.std.specs.Option.{unwrap_or}
pub use Rattle.std.specs.Prelude.{count_by, slice_index}
pub use Rattle.roman_lanes.proofs.CallerLemmas.{bit_is, full_word, on_and, on_clear_other, on_clear_same, on_less, on_ones, on_ones_above, on_or, on_pow_other, on_pow_same, on_set_other, on_set_same, on_zero}
unfoldable pub use Rattle.roman_lanes.specs.Flags.{has_flag}
pub use Rattle.roman_lanes.specs.Rows.{AreRows, HasLanes}
unfoldable pub use Rattle.roman_lanes.specs.Rows.{is_on}
pub use Rattle.roman_model.proofs.CallerLemmas.{HasNoRepeats-below, HasNoRepeats-filter, any_from, any_true, filter_below_more, filter_in, flat_map_row, from_below, from_flat_map, from_map, from_push, get_or-below, in_append_left, in_append_right, in_below, in_filter, length-below, list_any-map, low_ones, none_from, same_test, sum_by_same}
pub use Rattle.roman_model.specs.Arena.{Entry}
pub use Rattle.roman_model.specs.Lists.{HasNoRepeats, IsIn, below}
pub use Rattle.roman_model.specs.declared.reason.Reason.{Reason}
pub use Rattle.roman_order.specs.Board.{Board, as_entry, entries_in, entries_in_rows, has_entry, nodes_of, place_in_list}
unfoldable pub use Rattle.roman_order.specs.Board.{set_lanes}
pub use Rattle.roman_order.specs.Batches.{IsApart, IsBatch, TakesLanes, entries_at, entries_of}
pub use Rattle.roman_order.specs.Lending.{rewritten}
pub use Rattle.roman_order.specs.Sound.{AreCounted, AreStamps, CanWait, IsPlaced, IsSized, IsSound, board_of, firsts_of, places_of, removal_list, stamp_of, with_stamps}
pub use Rattle.roman_order.specs.ReadAhead.{AreUnkept, IsBatchOf}
pub use Rattle.roman_order.specs.declared.batch.Batch.{Batch}
pub use Rattle.roman_order.specs.declared.order.Order.TheInside.{Inside}
