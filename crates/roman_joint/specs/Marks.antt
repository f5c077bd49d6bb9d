-- Marks on the bands from which a band can be reached.
use Rattle.std.specs.Prelude.{◌≡◌, ℕ, ◌+◌, ◌*◌, ◌/◌, ◌<◌, ◌⊎◌, List, length, sum_by, slice_get, slice_index, IsTrue}
use Rattle.roman_model.specs.Lists.{IsIn, below}
use Rattle.roman_model.specs.System.{Sys}
use Rattle.roman_model.specs.SystemArena.{env_prev, beh_prev}
use Rattle.roman_model.specs.Numbers.{sizes_of}
use Rattle.roman_radix.specs.Radix.{stride_of}
use Rattle.roman_radix.specs.Rows.{env_rows_of, target_rows_of}
use Rattle.roman_lanes.specs.Flags.{has_flag}
use Rattle.roman_joint.specs.Backward.{seat_prev}
use Rattle.roman_joint.specs.NamedSys.{system_of}
use Rattle.roman_joint.specs.Rows.{lanes_in, IsRow}
use Rattle.roman_joint.specs.Bands.{mid_in, band_in}
use Rattle.roman_joint.specs.declared.row.Row.{Row}
use Rattle.roman_joint.specs.declared.marks.Arrival.{Arrival}

-- the band is marked, if the table has a place for it
abbrev pub IsMarked : List ℕ → ℕ → Type 0
IsMarked marks y = y < 64 * length marks → IsTrue (has_flag marks y)

-- marks are only added
pub record Grows (old new : List ℕ) : Type 0 where
  pub long : length new ≡ length old
  pub still : (y : ℕ) → IsTrue (has_flag old y) → IsTrue (has_flag new y)

-- the row at the target's t and the environment's e, with the row's states of the seats before the lanes
abbrev pub row_at : Sys → Row → ℕ → ℕ → ℕ
row_at s row e t = t * target_rows_of (sizes_of s) + e * env_rows_of (sizes_of s) + row.part

-- the row, the environment's state and the action belong to the joint
pub record IsArrival (by : Arrival) : Type 0 where
  pub row : (x : ℕ) × IsRow (system_of by.joint.now) x by.row.now
  pub env : by.env < (system_of by.joint.now).env.states
  pub action : by.action < (system_of by.joint.now).env.actions

-- P holds of one of the elements and y
pub record AnyOf (P : ℕ → ℕ → Type 0) (xs : List ℕ) (y : ℕ) : Type 0 where
  pub one : ℕ
  pub among : IsIn one xs
  pub holds : P one y

-- the bands of which P holds are marked, no mark is removed, and n steps are counted
pub record Marks (P : ℕ → Type 0) (n : ℕ) (old new : List ℕ) (before after : ℕ) : Type 0 where
  pub grows : Grows old new
  pub marked : (y : ℕ) → P y → IsMarked new y
  pub steps : after ≡ before + n

-- y is the band of the row base + b * stride - taken
pub record IsMoved (base stride taken band b y : ℕ) : Type 0 where
  pub row : ℕ
  pub moved : row + taken ≡ base + b * stride
  pub band_of : y ≡ row / band

-- from the band, seat k goes by action a, in environment state e, to its state in the row; `base` is the row before the step, but with the seat in its state after it
abbrev pub IsBeforeSeat : Sys → Row → ℕ → ℕ → ℕ → ℕ → ℕ → Type 0
IsBeforeSeat s row a e base k =
    let stride = stride_of (sizes_of s) k / lanes_in s in
    AnyOf (IsMoved base stride (slice_index row.states k * stride) (band_in s)) (seat_prev (slice_get s.seats k) (slice_index row.states k) e a)

-- from the band, at the target's t and the environment's e, action a leads to the row's band
pub record IsBeforeTarget (s : Sys) (row : Row) (a e t y : ℕ) : Type 0 where
  pub either : (y ≡ row_at s row e t / band_in s) ⊎ AnyOf (IsBeforeSeat s row a e (row_at s row e t)) (below (mid_in s)) y

-- from the band, at the environment's e, action a leads to the row's band
abbrev pub IsBeforeEnv : Sys → Row → ℕ → ℕ → ℕ → Type 0
IsBeforeEnv s row a e = AnyOf (IsBeforeTarget s row a e) (beh_prev s.target row.target e a)

-- from the band, action a leads to the row's band
abbrev pub IsBeforeAction : Sys → Row → ℕ → ℕ → Type 0
IsBeforeAction s row a = AnyOf (IsBeforeEnv s row a) (env_prev s.env row.env a)

-- the work for seat k: 1 for each state from which it goes by action a, in environment state e, to its state in the row
abbrev pub seat_work : Sys → Row → ℕ → ℕ → ℕ → ℕ
seat_work s row a e k = sum_by (λ b. 1) (seat_prev (slice_get s.seats k) (slice_index row.states k) e a)

-- the work for the seats before the band's own, by action a in environment state e
abbrev pub target_work : Sys → Row → ℕ → ℕ → ℕ
target_work s row a e = sum_by (seat_work s row a e) (below (mid_in s))

-- the work for all states of the target from which it goes by action a, in environment state e, to its state in the row
abbrev pub env_work : Sys → Row → ℕ → ℕ → ℕ
env_work s row a e = sum_by (λ t. target_work s row a e) (beh_prev s.target row.target e a)

-- the work for all states of the environment from which it goes by action a to its state in the row
abbrev pub action_work : Sys → Row → ℕ → ℕ
action_work s row a = sum_by (env_work s row a) (env_prev s.env row.env a)
