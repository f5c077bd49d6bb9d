-- Re-exports the names that the proof pages of this crate use from other crates. Declares nothing.
pub use Rattle.std.proofs.Common.{Fits, List, ap, arith, bit_and, bit_or, cond, count_by, count_ones, eqb, false, get_or, length, map, not, sym, take, true, w32, zero, ℕ, ◌%◌, ◌&&◌, ◌*◌, ◌+◌, ◌-◌, ◌/◌, ◌<◌, ◌==◌, ◌^◌, ◌||◌, ◌∙◌, ◌≡◌, ◌≢◌, ◌≤◌}
pub use Rattle.std.proofs.Math.Seq.{take-add}
pub use Rattle.std.proofs.lemmas.Bool.{cases_eq, cases_lt, cond-false, cond-true, eq-eqb, ne_eqb}
pub use Rattle.std.proofs.lemmas.List.{get_or-map, get_or_past, length-map, take_rest}
pub use Rattle.std.proofs.lemmas.List.Sums.{count_by-le-length, sum_by-append, sum_by-take-drop}
pub use Rattle.std.proofs.lemmas.Nat.{le_or_l, le_or_r}
pub use Rattle.std.proofs.lemmas.Nat.Bits.{bit_at-lt, bit_at-pow_other, bit_at-pow_same, bit_at-zero, bit_at_above, bit_at_and, bit_at_clear_other, bit_at_clear_same, bit_at_not, bit_at_ones, bit_at_ones_above, bit_at_or, bit_at_set_other, bit_at_set_same, ones_shr, shr_and_one}
pub use Rattle.std.proofs.lemmas.Simd.{Each1-get_or, bitmask_splat, get_or-chunk, get_or-put_chunk_above, get_or-put_chunk_at, get_or-put_chunk_below, get_or-zip2, length-chunk, length-zip2, ones-mask_l}
pub use Rattle.std.specs.Int.{bit_at, bit_not, w64}
pub use Rattle.std.specs.Simd.Lanes.{chunk, put_chunk, zip2}
unfoldable pub use Rattle.roman_lanes.specs.Rows.{is_on}
pub use Rattle.roman_lanes.specs.Words.{AreClear, AreClearFrom, UpdatesBetween}
