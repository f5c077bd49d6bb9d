-- The entries of batches.
use Rattle.std.specs.Prelude.{◌≡◌, ℕ, ◌+◌, ◌<◌, ◌++◌, true, false, List, length, drop, flat_map, slice_index}
use Rattle.std.specs.List.{AllByRecursion}
use Rattle.roman_model.specs.Arena.{Entry}
use Rattle.roman_lanes.specs.Rows.{is_on}
use Rattle.roman_order.specs.Board.{set_lanes, entries_in}
use Rattle.roman_order.specs.declared.batch.Batch.{Batch}

-- a batch has some lane, and its lanes are lanes of a row
pub record IsBatch (lanes : ℕ) (e : Batch) : Type 0 where
  pub some : 0 < length (set_lanes e.lanes)
  pub within : (lane : ℕ) → is_on e.lanes lane ≡ true → lane < lanes

-- the entries of a batch, for rows of `lanes` lanes
abbrev pub entries_at : ℕ → Batch → List (Entry ℕ)
entries_at lanes e = entries_in lanes e.row e.lanes e.reason

-- from place i on, the list has the entries of a batch
abbrev pub HasBatchAt : ℕ → List (Entry ℕ) → ℕ → Batch → Type 0
HasBatchAt lanes L i e = drop i L ≡ entries_at lanes e ++ drop (i + length (set_lanes e.lanes)) L

-- the rows of the batches are below a bound
abbrev pub HasRowsBelow : ℕ → List Batch → Type 0
HasRowsBelow rows es = AllByRecursion (λ e. e.row < rows) es

-- the entries of batches, in order
abbrev pub entries_of : ℕ → List Batch → List (Entry ℕ)
entries_of lanes es = flat_map (entries_at lanes) es

-- the word of a batch's row has none of the batch's lanes
abbrev pub IsApart : List ℕ → Batch → Type 0
IsApart words e = (lane : ℕ) → is_on e.lanes lane ≡ true → is_on (slice_index words e.row) lane ≡ false

-- the first batch is of the row and the reason of the second, and all its lanes are lower than the second's
pub record TakesLanes (e d : Batch) : Type 0 where
  pub row : e.row ≡ d.row
  pub why : e.reason ≡ d.reason
  pub lower : (l m : ℕ) → is_on e.lanes l ≡ true → is_on d.lanes m ≡ true → l < m
