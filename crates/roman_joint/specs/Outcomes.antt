-- The numbers of the pairs to which a delegation can lead.
use Rattle.std.specs.Prelude.{◌≡◌, ℕ, ◌+◌, ◌*◌, ◌^◌, ◌<◌, ◌≤◌, Bool, not, All, List, map, slice_index}
use Rattle.std.specs.List.{flat_map, list_any}
use Rattle.roman_model.specs.Numbers.{Sizes, count, pair_at}
use Rattle.roman_lanes.specs.Rows.{is_on}
use Rattle.roman_joint.specs.declared.outcomes.Outcomes.{Outcomes}

-- the number of the pair with the environment's state e and the seat's state b
abbrev pub outcome_number : Outcomes → ℕ → ℕ → ℕ
outcome_number o e b = o.base + e * o.env_stride + b * o.stride

-- all numbers, ordered by the environment's state and then by the seat's
abbrev pub outcome_numbers : Outcomes → List ℕ
outcome_numbers o = flat_map (λ e. map (λ b. outcome_number o e b) o.states.now) o.envs.now

-- P holds of each of these states of the environment with each of those of the seat
abbrev pub AllOutcomes : Outcomes → (ℕ → ℕ → Type 0) → Type 0
AllOutcomes o P = All (λ e. All (P e) o.states.now) o.envs.now

-- the number is that of a pair with the environment in state e and seat k in state b
pub record IsPairWith (n : Sizes) (k q e b : ℕ) : Type 0 where
  pub below : q < count n
  pub env : (pair_at n q).e ≡ e
  pub state : slice_index (pair_at n q).bs k ≡ b

-- the rows base + b * stride have 32 bits, and each and the `many - 1` after it are below `long`
pub record AreWithin (base stride many long : ℕ) (states : List ℕ) : Type 0 where
  pub fits : All (λ b. base + b * stride < 2 ^ 32) states
  pub within : All (λ b. base + b * stride + many ≤ long) states

-- of the numbers, each and the `many - 1` after it are below `long`, and all have 32 bits
pub record SuitsRows (rows : Outcomes) (many long : ℕ) : Type 0 where
  pub envs : All (λ e. rows.base + e * rows.env_stride < 2 ^ 32) rows.envs.now
  pub fits : AllOutcomes rows (λ e b. outcome_number rows e b < 2 ^ 32)
  pub within : AllOutcomes rows (λ e b. outcome_number rows e b + many ≤ long)

-- the lane isn't set in all of the rows base + b * stride, for the states b
abbrev pub is_missing : List ℕ → ℕ → ℕ → List ℕ → ℕ → Bool
is_missing words base stride states lane = list_any (λ b. not (is_on (slice_index words (base + b * stride)) lane)) states

-- the lane isn't set in all of the rows with the numbers of `rows`, each plus i
abbrev pub is_missing_in : List ℕ → Outcomes → ℕ → ℕ → Bool
is_missing_in words rows i lane = list_any (λ e. is_missing words (rows.base + i + e * rows.env_stride) rows.stride rows.states.now lane) rows.envs.now
