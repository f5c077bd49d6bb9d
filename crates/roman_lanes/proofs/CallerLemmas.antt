-- The lemmas of this crate that proofs of other crates may cite. All else in proofs/ can be renamed freely.

-- The lanes of words that are combined.
pub use Rattle.roman_lanes.proofs.RowBits.{bit_is, full_word, off_tested, on_and, on_clear_other, on_clear_same, on_full, on_full_past, on_less, on_not, on_ones, on_ones_above, on_or, on_pow_other, on_pow_same, on_set_other, on_set_same, on_tested, on_without, on_zero}
