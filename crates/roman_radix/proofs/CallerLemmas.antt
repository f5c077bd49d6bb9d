-- The lemmas of this crate that proofs of other crates may cite. All else in proofs/ can be renamed freely.

-- Products of sizes, and the table of strides.
pub use Rattle.roman_radix.proofs.Strides.{AreSizes-drop, AreSizes-index, product_more, product_positive}
-- How a pair's number changes with its states.
pub use Rattle.roman_radix.proofs.Moves.{Replaced, replaced}
-- Rows and lanes.
pub use Rattle.roman_radix.proofs.RowLemmas.{env_rows_are, exact, lanes_few, lanes_positive, low_of-le, row_below, row_div, row_least, row_mod, tails_from}
-- The numbering of rows.
pub use Rattle.roman_radix.proofs.RowLemmas.{AreSizes-take, count_rows, length_rows, row_size, row_stride_of, rows_are, IsSizes-rows}
