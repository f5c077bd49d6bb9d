-- Re-exports the names that the proof pages of this crate use from other crates. Declares nothing.
pub use Rattle.std.proofs.Common.{Bool, IfSome, IsTrue, List, Some, [], ap, ap₂, arith, cond, drop, false, filter, flat_map, inl, inr, length, map, not, refl, remove, slice_get, slice_index, slice_set, subst, suc, sum_by, sym, take, true, unwrap_or, zero, ℕ, ◌%◌, ◌&&◌, ◌*◌, ◌++◌, ◌+◌, ◌-◌, ◌/◌, ◌<◌, ◌||◌, ◌↔◌, ◌∙◌, ◌∷◌, ◌≡◌, ◌≢◌, ◌≤◌}
pub use Rattle.std.proofs.Math.Bool.{beq}
pub use Rattle.std.proofs.Math.ListN.{set}
pub use Rattle.std.proofs.Math.Seq.{take-append_seam}
pub use Rattle.std.proofs.lemmas.Bool.{cases_lt, eq-eqb, eqb-true, true≢false}
pub use Rattle.std.proofs.lemmas.Bool.Decides.{nat_tests}
pub use Rattle.std.proofs.lemmas.List.{get_or-set_other, get_or-set_same, length-map, length-set}
pub use Rattle.std.proofs.lemmas.List.Sums.{length-filter}
pub use Rattle.std.proofs.lemmas.Option.{same_Some, slice_get-get_or, unwrap_or-slice_get}
pub use Rattle.std.proofs.lemmas.Slice.Zip.{AllZip-long}
pub use Rattle.std.specs.List.{AllZip, list_any}
pub use Rattle.roman_joint.proofs.CallerLemmas.{seat_read}
pub use Rattle.roman_joint.specs.Changes.{with_frozen}
pub use Rattle.roman_joint.specs.NamedSys.{IsNamedSys, NamedSys, beh_at, seat_of, still, system_of}
pub use Rattle.roman_joint.specs.Parts.{HasSameParts}
pub use Rattle.roman_model.proofs.CallerLemmas.{HasNoRepeats-below, HasNoRepeats-map, all_below_at, all_below_from, any_same, freeze_one, freeze_two, from_below, from_map, from_outcome, from_pairs, great_related, in_below, in_pairs, is_empty-map, leave_one, leave_two, length-remove, length-set_frozen, length-states_at, list_any-map, map-flat_map, map-map, number_without-is, numbers_are_pairs, pair_at-without, pairs_once, related_great, same_test, sizes-left, sizes-turned, sum_by-map, sum_by_same, sum_by_within, without_changes}
pub use Rattle.roman_model.specs.Arena.{is_beaten, loses, mask}
pub use Rattle.roman_model.specs.Change.{after, set_frozen, without}
pub use Rattle.roman_model.specs.Composition.{Great}
pub use Rattle.roman_model.specs.Lists.{HasNoRepeats, IsIn, all_below, below, is_empty, product_of}
pub use Rattle.roman_model.specs.Numbers.{Sizes, count, number, pair_at, sizes_of, sizes_without}
pub use Rattle.roman_model.specs.Offers.{choice_count, is_related, related_count}
pub use Rattle.roman_model.specs.System.{IsPair, Pair, Seat, Sys, all_final, has, is_final}
pub use Rattle.roman_model.specs.SystemArena.{arena, beh_next, env_next, is_allowed, is_ready, outcomes, outcomes_by, pairs, seat_next}
pub use Rattle.roman_model.specs.Without.{Outlook, freeze_at, leave_out, outlook, pair_without, system_without}
pub use Rattle.roman_model.specs.declared.way.Way.{Way}
pub use Rattle.roman_model.specs.declared.way.Way.TheVariants.{Die, Freeze}
pub use Rattle.roman_order.specs.Board.{Board}
pub use Rattle.roman_relation.specs.Greatest.{IsRelation}
pub use Rattle.roman_relation.specs.declared.relation.Relation.{Relation}
pub use Rattle.roman_whatif.specs.Left.{IsIdleScratchOf, IsLeft, failing_places}
pub use Rattle.roman_whatif.specs.Losses.{AreAlike, AreTold, AreTrialsOf, IsToldOf, left_of, told_at}
pub use Rattle.roman_whatif.specs.Told.{told}
