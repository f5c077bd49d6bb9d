-- Reading the list of an order.
use Rattle.std.specs.Prelude.{◌≡◌, ℕ, ◌+◌, ◌-◌, ◌<◌, ◌≤◌, true, false, List, length, take, drop}
use Rattle.roman_model.specs.Arena.{Entry}
use Rattle.roman_model.specs.Lists.{IsIn}
use Rattle.roman_lanes.specs.Rows.{is_on}
use Rattle.roman_order.specs.Board.{Board, is_kept, set_lanes}
use Rattle.roman_order.specs.Batches.{HasBatchAt, IsBatch}
use Rattle.roman_order.specs.declared.ahead.Ahead.{Ahead}
use Rattle.roman_order.specs.declared.batch.Batch.{Batch}

-- the entries that were read ahead are those from place i of the list on
pub record IsAhead (order : Board) (i : ℕ) (ahead : Ahead) : Type 0 where
  pub entries : HasBatchAt order.lanes order.list i ahead.batch
  pub within : (lane : ℕ) → is_on ahead.batch.lanes lane ≡ true → (ahead.batch.row < order.rows) × (lane < order.lanes)

-- the pairs of the entries from place i up to place j of the list have no bits in the kept words
pub record AreUnkept (order : Board) (i j : ℕ) : Type 0 where
  pub from : i ≤ j
  pub to : j ≤ length order.list
  pub unkept : (x : Entry ℕ) → IsIn x (take (j - i) (drop i order.list)) → is_kept order x.node ≡ false

-- the entry at place i of the list is an entry of the batch e, which begins at the place first
pub record IsBatchOf (rows lanes : ℕ) (L : List (Entry ℕ)) (i first : ℕ) (e : Batch) : Type 0 where
  pub parts : HasBatchAt lanes L first e
  pub from : first ≤ i
  pub within : i < first + length (set_lanes e.lanes)
  pub to : first + length (set_lanes e.lanes) ≤ length L
  pub batch : IsBatch lanes e
  pub row : e.row < rows
