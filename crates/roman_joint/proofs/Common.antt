-- Re-exports the names that the proof pages of this crate use from other crates. Declares nothing.
pub use Rattle.std.proofs.Common.{All, Bool, Fits, IfSome, IsFalse, IsTrue, List, None, Option, Some, [], add-one, ap, ap₂, arith, bit_and, cond, count_by, drop, eqb, false, get_or, get_or-drop, if◌then◌else◌, inl, inr, length, ltb, map, mul-le-mul, not, refl, replicate, rules, slice_get, slice_index, slice_index_or, slice_range, slice_set, subst, suc, sum_by, sym, take, true, vec_capacity, zero, ℕ, ◌%◌, ◌&&◌, ◌*◌, ◌++◌, ◌+◌, ◌-◌, ◌/◌, ◌<◌, ◌==◌, ◌^◌, ◌||◌, ◌↔◌, ◌∙◌, ◌∷◌, ◌≡◌, ◌≢◌, ◌≤◌, ◌⊎◌}
pub use Rattle.std.proofs.Math.Bool.{and-false, and-true, and_assoc, not-not, or-false}
pub use Rattle.std.proofs.Math.ListN.{set}
pub use Rattle.std.proofs.Math.Nat.{add-mod-mod, div-div-eq-div-mul, div-eq_of_lt-le, le-div_iff_mul-le, mod-eq_of_lt, mul-add-div_right, mul-add-mod_self_right, mul-le-mul_left, mul-le-mul_right, mul-mod_left}
pub use Rattle.std.proofs.Math.Seq.{get_or-append_seam}
pub use Rattle.std.proofs.lemmas.Bool.{and_parts, both_ways, cases_eq, cases_lt, eq-eqb, eqb-true, false≢true, le-ltb, lt-ltb, ne_eqb, not-false, not-true, not_from_false, or_right}
pub use Rattle.std.proofs.lemmas.Bool.Decides.{nat_tests}
pub use Rattle.std.proofs.lemmas.List.{append-nil, append_assoc, drop-append-le, drop-map, drop_all, drop_more, get_or-map, get_or-set_other, get_or-set_same, get_or_append_left, get_or_past, length-append, length-drop, length-map, length-set, length-take, map-append, map_push, nil_from_length, set-get_or, set-set, take-map, take_all, take_more, take_more_set}
pub use Rattle.std.proofs.lemmas.List.Elements.{All-append, All-drop, All-from_recursion, All-get_or, All-map, All-push, All-take, recursion_from_All}
pub use Rattle.std.proofs.lemmas.List.Folds.{find-append, list_any_more}
pub use Rattle.std.proofs.lemmas.List.Sums.{count_by-le-length, length-filter, sum_by-append, sum_by-cons}
pub use Rattle.std.proofs.lemmas.Nat.{div-add-mod', le_or_l, le_or_r, div-mul-add, div_below, mod-mul-add, mod_below, mul-add-lt, mul-le, pow_pos, same_from_place, shr-shr}
pub use Rattle.std.proofs.lemmas.Nat.Bits.{bit_at-zero, bit_at_above, bit_at_cat_high, bit_at_cat_low, shr_and_one}
pub use Rattle.std.proofs.lemmas.Option.{get_or_from_slice_get, same_Some, slice_get-get_or, slice_get-map, slice_get_past, slice_get_within}
pub use Rattle.std.proofs.lemmas.Simd.{Each1-get_or, get_or-replicate, get_or-zip2, length-replicate, length-zip2, shifts_fit_splat, zip2_splat, zip2_splat_left}
pub use Rattle.std.specs.Int.{bit_at, bit_not, w64}
pub use Rattle.std.specs.List.{AllByRecursion, filter, find, flat_map, list_any, remove}
pub use Rattle.std.specs.Option.{IsSome, option_map, option_or}
pub use Rattle.std.specs.Prelude.{bit_or}
pub use Rattle.std.specs.Simd.Lanes.{fold_l}
pub use Rattle.roman_lanes.proofs.CallerLemmas.{on_and, on_full, on_full_past, on_not, on_ones, on_or, on_zero}
unfoldable pub use Rattle.roman_lanes.specs.Flags.{has_flag}
pub use Rattle.roman_lanes.specs.Rows.{AreRows, HasLanes, Keeps}
unfoldable pub use Rattle.roman_lanes.specs.Rows.{is_on}
pub use Rattle.roman_model.proofs.CallerLemmas.{AreBelow-index, AreBelow-length, HasNoRepeats-below, HasNoRepeats-filter, HasNoRepeats-flat_map, HasNoRepeats-map, HasNoRepeats-push, IsArena, IsPairOf-at, IsPairOf-from, IsSys-after, all_below_at, all_below_from, allowed_in_range, any_from, any_same, any_true, by_test, count-without, empty_is, filter_below_more, filter_in, from_back, from_beh_next, from_beh_prev, from_below, from_env_next, from_env_prev, from_flat_map, from_map, from_outcome, from_push, from_seat_next, get_in, get_or-below, in_at, in_back, in_beh_prev, in_below, in_env_prev, in_filter, in_flat_map, in_map, in_not_empty, length-below, list_any-flat_map, list_any-map, map-map, move_in_range, mul_cancel, no_longer, not_empty_in, number-pair_at, number_below, numbered_is_arena, numbered_is_same, numbers_are_pairs, outcome_in, outcome_pair, part_at, parts_of_number, remove_in, rest_is, same_test, size_at, states_frozen, states_long, states_number-set, states_set, sum_by_same, triple_in_range}
pub use Rattle.roman_model.specs.Arena.{Arena, Delegation, back, delegations, is_among, is_beaten, is_justified, mask}
pub use Rattle.roman_model.specs.Change.{CanChange, Change, Die, Freeze, Join, Thaw, after, set_frozen}
pub use Rattle.roman_model.specs.Explanation.{SeatNames, name_at, seat_names}
pub use Rattle.roman_model.specs.Lists.{HasNoRepeats, HoldsEachOnce, IsIn, all_below, below, is_empty, product_of}
pub use Rattle.roman_model.specs.Numbers.{IsPairOf, Sizes, count, grown_sizes, number, numbered, pair_at, sizes_of, sizes_without, states_number}
pub use Rattle.roman_model.specs.System.{Beh, Env, IsBeh, IsDeterministic, IsEnv, IsPair, IsSys, Pair, Seat, Sys, all_final, has, has_move, has_triple, is_final}
pub use Rattle.roman_model.specs.SystemArena.{beh_next, beh_prev, env_next, env_prev, is_allowed, is_ready, outcomes, seat_next}
pub use Rattle.roman_model.specs.declared.limits.TheConstants.{MAX_CELLS, MAX_SERVICES}
pub use Rattle.roman_model.specs.declared.reason.Reason.TheVariants.{Act}
pub use Rattle.roman_parts.proofs.CallerLemmas.{slice_range-append}
pub use Rattle.roman_parts.specs.Named.{IsOver, NamedBeh, NamedEnv}
pub use Rattle.roman_radix.proofs.CallerLemmas.{AreSizes-drop, AreSizes-index, IsSizes-rows, count_rows, env_rows_are, exact, lanes_few, lanes_positive, length_rows, low_of-le, product_more, product_positive, row_below, row_div, row_least, row_mod, row_size, row_stride_of, rows_are, tails_from}
pub use Rattle.roman_radix.specs.Radix.{AreSizes, IsSizes, env_stride_of, moved, stride_of, target_stride_of}
pub use Rattle.roman_radix.specs.Rows.{env_rows_of, lanes_of, low_of, row_sizes, target_rows_of}
pub use Rattle.roman_rules.proofs.CallerLemmas.{action_counted, has_good, mask_all, mask_more, none_chosen, ones_counted, ones_few, served_by, sum_below_more, sum_cut, sum_turned}
pub use Rattle.roman_rules.specs.Bits.{HasBits, bit_of}
pub use Rattle.roman_rules.specs.Numbered.{IsNumbered}
pub use Rattle.roman_joint.specs.Backward.{from_action, from_all, from_env, from_seat, from_states, from_target, seat_prev}
pub use Rattle.roman_joint.specs.Bands.{AllAlive, AreRowsBefore, ClearsAllServed, LosesStripe, band_in, fails, mid_in, target_move_at}
pub use Rattle.roman_joint.specs.Behaviours.{HaveBehaviours, IsSeatBehaviour, IsServiceAt, seat_sizes}
pub use Rattle.roman_joint.specs.Changes.{with_frozen}
pub use Rattle.roman_joint.specs.Layout.{IsJoint, IsJointOf, named_sys_in}
pub use Rattle.roman_joint.specs.Marks.{AnyOf, Grows, IsBeforeAction, IsBeforeEnv, IsBeforeSeat, IsBeforeTarget, IsMarked, IsMoved, Marks, action_work, env_work, row_at, seat_work, target_work}
pub use Rattle.roman_joint.specs.Moves.{AreLaneMoves, AreMovesOf, AreSeatsIn, AreShifts, FillsColumns, HoldsMoves, HoldsSpans, IsAdded, IsKept, IsSpan, LosesMoving, StaysWithin, SuitsEnv, lane_move, lane_moves_from, leads_away, span_place, system_in, shifts_room, within_in}
pub use Rattle.roman_joint.specs.NamedSys.{IsNamedSys, IsOverEnv, NamedSys, beh_at, cells, named_parts, seat_of, still, system_of}
pub use Rattle.roman_joint.specs.Names.{beh_states, names_in, names_of_seat}
pub use Rattle.roman_joint.specs.Outcomes.{AreWithin, IsPairWith, SuitsRows, outcome_number}
pub use Rattle.roman_joint.specs.Parts.{HasSameParts, named_in}
pub use Rattle.roman_joint.specs.Rows.{AreAlive, IsLayoutOf, HasResting, IsRow, IsTargetMove, is_open, lane_state_of, lanes_in, low_in, may_rest}
unfoldable pub use Rattle.roman_joint.specs.Rows.{lane_has_state}
pub use Rattle.roman_joint.specs.TargetViews.{AreLeading, ArePermitted, IsTargetView}
pub use Rattle.roman_joint.specs.Walks.{IsWalk, WalkGoesOn, goal_of, left, left_of_action, left_of_all, left_of_env, left_of_seat, left_of_target, states_before, walk_left}
pub use Rattle.roman_joint.specs.declared.joint.Joint.TheInside.{Inside}
pub use Rattle.roman_joint.specs.declared.layout.Layout.{Layout}
pub use Rattle.roman_joint.specs.declared.moves.Move.{Move}
pub use Rattle.roman_joint.specs.declared.moves.Moves.{Moves}
pub use Rattle.roman_joint.specs.declared.moves.Span.{Span}
pub use Rattle.roman_joint.specs.declared.outcomes.Outcomes.{Outcomes}
pub use Rattle.roman_joint.specs.declared.row.Row.{Row}
pub use Rattle.roman_joint.specs.declared.seat.Parts.{Parts}
pub use Rattle.roman_joint.specs.declared.target_view.TargetView.{TargetView}
pub use Rattle.roman_joint.specs.declared.attempt.TargetMove.{TargetMove}
pub use Rattle.roman_joint.specs.declared.walk.Walk.{Walk}
pub use Rattle.roman_joint.specs.declared.shifts.Shifts.{Shifts}
