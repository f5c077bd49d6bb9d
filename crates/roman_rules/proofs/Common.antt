-- Re-exports the names that the proof pages of this crate use from other crates. Declares nothing.
pub use Rattle.std.proofs.Common.{Bool, IsFalse, IsTrue, [], ap, arith, bit_or, cond, count_by, count_ones, false, length, not, refl, rules, slice_index, subst, suc, sum_by, sym, true, zero, ℕ, ◌%◌, ◌*◌, ◌+◌, ◌-◌, ◌<◌, ◌^◌, ◌∙◌, ◌∷◌, ◌≡◌, ◌≢◌, ◌≤◌}
pub use Rattle.std.proofs.Math.Nat.{add-suc, add-zero}
pub use Rattle.std.proofs.lemmas.Bool.{both_ways, cases_eq, cases_lt, cond-false, cond-true, eq-eqb, eqb-true, not_from_true}
pub use Rattle.std.proofs.lemmas.List.Sums.{length-filter, sum_by_push}
pub use Rattle.std.proofs.lemmas.Nat.{ones-le}
pub use Rattle.std.proofs.lemmas.Nat.Bits.{bit_at-zero, bit_at_set_other, bit_at_set_same, shr_and_one}
pub use Rattle.std.specs.Int.{bit_at, w32}
pub use Rattle.roman_lanes.proofs.CallerLemmas.{bit_is, on_full, on_zero}
pub use Rattle.roman_lanes.specs.Rows.{HasLanes}
unfoldable pub use Rattle.roman_lanes.specs.Rows.{is_on}
pub use Rattle.roman_model.proofs.CallerLemmas.{HasNoRepeats-below, IsArena, IsSame, beaten_none, by_test, empty_is, from_below, in_below, justified_more, low_ones, mask_has, mask_has_past, mask_none, not_empty_in, sum_by_same, unallowed_unjustified}
pub use Rattle.roman_model.specs.Arena.{Arena, is_beaten, mask}
pub use Rattle.roman_model.specs.Lists.{HasNoRepeats, IsIn, below, is_empty}
pub use Rattle.roman_model.specs.System.{has}
pub use Rattle.roman_rules.specs.Probes.{HoldsWhereKnown}
unfoldable pub use Rattle.roman_rules.specs.Probes.{readings_of}
pub use Rattle.roman_rules.specs.Bits.{HasBits, bit_of, has_seat}
pub use Rattle.roman_rules.specs.Numbered.{IsNumbered}
pub use Rattle.roman_rules.specs.declared.probe.RowProbe.{RowProbe}
