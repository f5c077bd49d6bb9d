-- Bands of neighbouring rows, which differ only in the states of the last seats before the lanes.
use Rattle.std.specs.Prelude.{◌≡◌, ℕ, ◌+◌, ◌-◌, ◌*◌, ◌^◌, ◌<◌, ◌≤◌, ◌&&◌, ◌||◌, true, false, not, All, Bool, List, IsFalse, length, slice_get, slice_index}
use Rattle.std.specs.List.{list_any}
use Rattle.roman_model.specs.Lists.{is_empty, all_below}
use Rattle.roman_model.specs.System.{Sys}
use Rattle.roman_model.specs.SystemArena.{seat_next}
use Rattle.roman_model.specs.Arena.{is_beaten}
use Rattle.roman_model.specs.Numbers.{sizes_of, numbered}
use Rattle.roman_radix.specs.Radix.{stride_of}
use Rattle.roman_radix.specs.Rows.{low_of, lanes_of, row_sizes, env_rows_of}
use Rattle.roman_lanes.specs.Rows.{is_on, Keeps}
use Rattle.roman_joint.specs.Rows.{lanes_in, AreAlive, HasAlive, IsRow, IsAttempt}
use Rattle.roman_joint.specs.Outcomes.{is_missing, is_missing_in}
use Rattle.roman_joint.specs.declared.outcomes.Outcomes.{Outcomes}
use Rattle.roman_joint.specs.declared.row.Row.{Row}
use Rattle.roman_joint.specs.declared.stripes.Stripe.{Stripe}
use Rattle.roman_joint.specs.declared.attempt.TargetMove.{TargetMove}
use Rattle.roman_joint.specs.declared.attempt.Attempt.{Attempt}

-- the number of seats before a band's own
abbrev pub mid_in : Sys → ℕ
mid_in s = low_of (row_sizes (sizes_of s)).seats

-- the number of rows in a band
abbrev pub band_in : Sys → ℕ
band_in s = lanes_of (row_sizes (sizes_of s)).seats

-- the attempt of row i of a band, from that of its first row
abbrev pub target_move_at : TargetMove → ℕ → TargetMove
target_move_at target_move i = record { base = target_move.base + i; envs = target_move.envs }

-- each word has the alive lanes of its row's attempt: those at which the attempt leads to no pair that is gone
pub record AllAlive (s : Sys) (gone : ℕ → Bool) (target_move : TargetMove) (alive : List ℕ) : Type 0 where
  pub each : (i : ℕ) → i < band_in s → AreAlive s gone (target_move_at target_move i) (slice_index alive i)

-- whichever pairs are gone, if the attempt's words are those of the others, these words have the alive lanes of its rows
abbrev pub FollowsAlive : Sys → Attempt → List ℕ → Type 0
FollowsAlive s attempt alive = (gone : ℕ → Bool) → HasAlive s gone attempt.words.now → AllAlive s gone attempt.to alive

-- the stripe's `alive` has, for each of its states, the words of `many` neighbouring rows; the words of state 0 begin at place `from`
pub record SuitsStripe (stripe : Stripe) (many : ℕ) : Type 0 where
  pub few : stripe.from + many < 2 ^ 64
  pub within : All (λ b. stripe.from + many + b * stripe.stride ≤ length stripe.alive.now) stripe.states.now

-- the new word at place i is the old one without those lanes that are set in the words of all states of the stripe
abbrev pub LosesStripe : Stripe → ℕ → ℕ → ℕ → Type 0
LosesStripe stripe i old new = (lane : ℕ) → is_on new lane
    ≡ (is_on old lane && is_missing stripe.alive.now (stripe.from + i) stripe.stride stripe.states.now lane)

-- the new word at place i is the old one without some lanes that are set in all rows of the word, among them all such lanes of `full`; the rows have the numbers of `rows`, each plus i
pub record LosesAlive (rows : Outcomes) (words : List ℕ) (full i old new : ℕ) : Type 0 where
  pub each : (lane : ℕ) → is_on full lane ≡ true → is_on new lane
      ≡ (is_on old lane && is_missing_in words rows i lane)
  pub none : (lane : ℕ) → is_on old lane ≡ false → is_on new lane ≡ false

-- a component of this size and stride, within a band, is in state b and can go to these states
pub record CanGo (size stride b : ℕ) (states : List ℕ) : Type 0 where
  pub step : size * stride ≤ 64
  pub stride_some : 0 < stride
  pub state : b < size
  pub states_below : All (λ c. c < size) states

-- a component of this stride, in state b at place i, can go to no state, or to one whose word doesn't have the lane
abbrev pub fails : ℕ → ℕ → ℕ → List ℕ → List ℕ → ℕ → Bool
fails stride i b states alive lane = is_empty states || list_any (λ d. not (is_on (slice_index alive (i - b * stride + d * stride)) lane)) states

-- the attempt is that of an action of the system at the first row of a band
abbrev pub IsBandAttempt : Sys → Attempt → Type 0
IsBandAttempt s attempt = (y : ℕ) × IsAttempt s (y * band_in s) attempt

-- the attempt is that of a band, and there are words for the alive lanes of its rows and for its pairs
pub record SuitsBand (s : Sys) (attempt : Attempt) (alive left : List ℕ) : Type 0 where
  pub is_attempt : IsBandAttempt s attempt
  pub room : band_in s ≤ length alive
  pub long : length left ≡ band_in s

-- in the attempt's band, exactly the pairs that pass the test stay set, if `alive` has the alive lanes of each row's attempt
pub record ClearsBand (s : Sys) (attempt : Attempt) (alive : List ℕ) (test : (ℕ → Bool) → ℕ → Bool) (old new : List ℕ) : Type 0 where
  pub long : length new ≡ length old
  pub left : (y : ℕ) (gone : ℕ → Bool) → IsRow s (y * band_in s) attempt.row.now → HasAlive s gone attempt.words.now → AllAlive s gone attempt.to alive → Keeps (lanes_in s) (y * band_in s) (band_in s) (test gone) old new

-- in the attempt's band, exactly the pairs at which seat k serves the attempt's action are cleared
abbrev pub ClearsServed : Sys → Attempt → List ℕ → ℕ → List ℕ → List ℕ → Type 0
ClearsServed s attempt alive k old new = ClearsBand s attempt alive (λ gone p. is_beaten (numbered s) gone p attempt.action k) old new

-- in the attempt's band, exactly the pairs at which one of the first `many` seats serves the attempt's action are cleared
abbrev pub ClearsAllServed : Sys → Attempt → List ℕ → ℕ → List ℕ → List ℕ → Type 0
ClearsAllServed s attempt alive many old new = ClearsBand s attempt alive (λ gone p. all_below (is_beaten (numbered s) gone p attempt.action) many) old new

-- the states to which seat k goes from its state in the row, by the action
abbrev pub next_by : Sys → Row → ℕ → ℕ → List ℕ
next_by s row a k = seat_next (slice_get s.seats k) (slice_index row.states k) row.env a

-- by the action, seat k leads from the row to these rows; the seat is before the lanes, and has a next state
pub record AreRowsBefore (s : Sys) (row : Row) (target_move : TargetMove) (a k : ℕ) (to : Outcomes) : Type 0 where
  pub base : to.base + slice_index row.states k * to.stride ≡ target_move.base
  pub stride : to.stride * lanes_in s ≡ stride_of (sizes_of s) k
  pub env_stride : to.env_stride ≡ env_rows_of (sizes_of s)
  pub worlds : to.envs.now ≡ target_move.envs.now
  pub states : to.states.now ≡ next_by s row a k
  pub some : IsFalse (is_empty to.states.now)
