-- Rows of a system's pairs.
use Rattle.std.specs.Prelude.{◌≡◌, ℕ, ◌+◌, ◌*◌, ◌/◌, ◌%◌, ◌<◌, ◌≤◌, ◌==◌, ◌&&◌, ◌||◌, ltb, Bool, true, false, not, List, Option, None, Some, [], ◌∷◌, length, slice_get, slice_index, IsFalse}
use Rattle.std.specs.List.{list_any}
use Rattle.roman_model.specs.Lists.{is_empty, all_below}
use Rattle.roman_model.specs.System.{Sys, Seat, is_final}
use Rattle.roman_model.specs.SystemArena.{env_next, beh_next}
use Rattle.roman_model.specs.Arena.{is_beaten}
use Rattle.roman_model.specs.Numbers.{Sizes, sizes_of, count, pair_at, numbered}
use Rattle.roman_radix.specs.Radix.{IsSizes, stride_of}
use Rattle.roman_radix.specs.Rows.{low_of, lanes_of, row_sizes, env_rows_of, target_rows_of}
use Rattle.roman_lanes.specs.Rows.{is_on, HasLanes}
use Rattle.roman_rules.specs.Alive.{AreAliveRows}
use Rattle.roman_joint.specs.TargetViews.{ArePermitted, AreLeading}
use Rattle.roman_joint.specs.declared.layout.Layout.{Layout}
use Rattle.roman_joint.specs.declared.row.Row.{Row}
use Rattle.roman_joint.specs.declared.attempt.TargetMove.{TargetMove}
use Rattle.roman_joint.specs.declared.attempt.Attempt.{Attempt}

-- the number of pairs in a row of the system
abbrev pub lanes_in : Sys → ℕ
lanes_in s = lanes_of (sizes_of s).seats

-- the number of seats before the lanes
abbrev pub low_in : Sys → ℕ
low_in s = low_of (sizes_of s).seats

-- at the lane, a seat of this stride and size is in state b
unfoldable pub lane_has_state : ℕ → ℕ → ℕ → ℕ → Bool
lane_has_state stride size b lane = lane / stride % size == b

-- the state of seat k at a lane
abbrev pub lane_state_of : Sizes → ℕ → ℕ → ℕ
lane_state_of n k lane = lane / stride_of n k % slice_index n.seats k

-- the word has exactly the lanes at which seat k is in state b
pub record AreInState (n : Sizes) (k b word : ℕ) : Type 0 where
  pub each : (lane : ℕ) → lane < lanes_of n.seats → is_on word lane ≡ lane_has_state (stride_of n k) (slice_index n.seats k) b lane
  pub rest : (lane : ℕ) → lanes_of n.seats ≤ lane → is_on word lane ≡ false

-- no size is 0, and the rows are those of the sizes: strides of seats before the lanes are counted in rows, and those of seats within them in lanes
pub record IsLayoutOf (n : Sizes) (r : Layout) : Type 0 where
  pub ok : IsSizes n
  pub low : r.low ≡ low_of n.seats
  pub mid : r.mid ≡ low_of (row_sizes n).seats
  pub order : (r.mid ≤ r.low) × (r.low ≤ length n.seats)
  pub band : r.band ≡ lanes_of (row_sizes n).seats
  pub band_range : (0 < r.band) × (r.band ≤ 64)
  pub lanes : r.lanes ≡ lanes_of n.seats
  pub lanes_range : (0 < r.lanes) × (r.lanes ≤ 64)
  pub full : (lane : ℕ) → is_on r.full lane ≡ ltb lane (lanes_of n.seats)
  pub rows : r.rows * lanes_of n.seats ≡ count n
  pub env : r.env_rows ≡ env_rows_of n
  pub env_some : 0 < r.env_rows
  pub target : r.target_rows ≡ target_rows_of n
  pub before : (k : ℕ) → k < low_of n.seats → slice_index r.strides k * lanes_of n.seats ≡ stride_of n k
  pub within : (k : ℕ) → low_of n.seats ≤ k → k < length n.seats → slice_index r.strides k ≡ stride_of n k
  pub sizes : (k : ℕ) → k < length n.seats → slice_index r.sizes k ≡ slice_index n.seats k
  pub firsts : (k lane : ℕ) → k < length n.seats → lane < 64 → is_on (slice_index r.firsts k) lane ≡ lane_has_state (stride_of n k) (slice_index n.seats k) 0 lane

-- the looked-up facts are those of row x: all its pairs have these states of the target, the environment and the seats before the lanes
pub record IsRow (s : Sys) (x : ℕ) (row : Row) : Type 0 where
  pub part : row.part ≡ x % env_rows_of (sizes_of s)
  pub target_range : row.target < s.target.states
  pub env_range : row.env < s.env.states
  pub state_range : (k : ℕ) → k < low_in s → slice_index row.states k < slice_index (sizes_of s).seats k
  pub below : (lane : ℕ) → lane < lanes_in s → x * lanes_in s + lane < count (sizes_of s)
  pub targets : (lane : ℕ) → lane < lanes_in s → (pair_at (sizes_of s) (x * lanes_in s + lane)).t ≡ row.target
  pub envs : (lane : ℕ) → lane < lanes_in s → (pair_at (sizes_of s) (x * lanes_in s + lane)).e ≡ row.env
  pub states : (k lane : ℕ) → k < low_in s → lane < lanes_in s → slice_index (pair_at (sizes_of s) (x * lanes_in s + lane)).bs k ≡ slice_index row.states k
  pub allowed : ArePermitted s.env s.target row.target row.env row.allowed
  pub leading : AreLeading s.env s.target row.target row.env row.leading

-- the target allows the action at the row's pairs
abbrev pub is_open : Sys → Row → ℕ → Bool
is_open s row a = not (is_empty (env_next s.env row.env a)) && not (is_empty (beh_next s.target row.target row.env a))

-- the action leads from the row to one state of the target and these of the environment; `base` is the row at that state of the target and state 0 of the environment
pub record IsTargetMove (s : Sys) (row : Row) (a : ℕ) (target_move : TargetMove) : Type 0 where
  pub to : ℕ
  pub target : beh_next s.target row.target row.env a ≡ to ∷ []
  pub base : target_move.base ≡ to * target_rows_of (sizes_of s) + row.part
  pub worlds : target_move.envs.now ≡ env_next s.env row.env a
  pub some : IsFalse (is_empty target_move.envs.now)

-- these are the alive lanes of the attempt: those at which it leads to no pair that is gone, in any state of the environment
pub record AreAlive (s : Sys) (gone : ℕ → Bool) (target_move : TargetMove) (alive : ℕ) : Type 0 where
  pub each : (lane : ℕ) → lane < lanes_in s → is_on alive lane ≡ not (list_any (λ e. gone ((target_move.base + e * env_rows_of (sizes_of s)) * lanes_in s + lane)) target_move.envs.now)

-- the words have, row by row, the bits of the pairs that aren't gone
abbrev pub HasAlive : Sys → (ℕ → Bool) → List ℕ → Type 0
HasAlive s gone words = AreAliveRows (lanes_in s) gone words

-- the seat may rest in state b: the state is final, or the seat is loose
abbrev pub may_rest : Option Seat → ℕ → Bool
may_rest None b = true
may_rest (Some seat) b = not seat.rests || is_final seat.beh b

-- among the lanes, the word has those at which all seats within the lanes may rest
abbrev pub HasResting : Sys → ℕ → Type 0
HasResting s word = (lane : ℕ) → lane < lanes_in s → is_on word lane
    ≡ all_below (λ k. ltb k (low_in s) || may_rest (slice_get s.seats k) (lane_state_of (sizes_of s) k lane)) (length s.seats)

-- the attempt is that of an action of the system at row x, and has a word for each row
pub record IsAttempt (s : Sys) (x : ℕ) (attempt : Attempt) : Type 0 where
  pub row : IsRow s x attempt.row.now
  pub to : IsTargetMove s attempt.row.now attempt.action attempt.to
  pub action : attempt.action < s.env.actions
  pub room : length attempt.words.now * lanes_in s ≡ count (sizes_of s)

-- the word has exactly the lanes at which seat k serves the attempt's action, if `alive` has the alive lanes of the attempt
pub record AreServed (s : Sys) (attempt : Attempt) (alive k word : ℕ) : Type 0 where
  pub each : (x : ℕ) (gone : ℕ → Bool) → IsRow s x attempt.row.now → HasAlive s gone attempt.words.now → AreAlive s gone attempt.to alive → HasLanes (lanes_in s) x (λ p. not (is_beaten (numbered s) gone p attempt.action k)) word
