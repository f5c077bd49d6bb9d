-- How pairs lie in rows: the last components give a pair's lane in its row, as many of them as have sizes whose product is at most 64.
use Rattle.std.specs.Prelude.{ℕ, suc, ◌*◌, ltb, if◌then◌else◌, List, [], ◌∷◌, take, drop}
use Rattle.roman_model.specs.Lists.{product_of}
use Rattle.roman_model.specs.Numbers.{Sizes}

-- the number of components before the lanes
abbrev pub low_of : List ℕ → ℕ
low_of [] = 0
low_of (size ∷ sizes) = if ltb 64 (product_of (size ∷ sizes)) then suc (low_of sizes) else 0

-- the number of pairs in a row
abbrev pub lanes_of : List ℕ → ℕ
lanes_of sizes = product_of (drop (low_of sizes) sizes)

-- the number of rows for each state of the target and of the environment
abbrev pub env_rows_of : Sizes → ℕ
env_rows_of n = product_of (take (low_of n.seats) n.seats)

-- the number of rows for each state of the target
abbrev pub target_rows_of : Sizes → ℕ
target_rows_of n = n.env * env_rows_of n

-- the sizes by which rows are numbered: those of the components before the lanes
abbrev pub row_sizes : Sizes → Sizes
row_sizes n = record { target = n.target; env = n.env; seats = take (low_of n.seats) n.seats }
