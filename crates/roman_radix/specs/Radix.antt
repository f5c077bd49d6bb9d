-- Sizes whose pairs have numbers of 32 bits, and how a pair's number depends on each of its states.
use Rattle.std.specs.Prelude.{ℕ, ◌≡◌, ◌<◌, ◌≤◌, ◌+◌, ◌*◌, ◌^◌, List, [], ◌∷◌, length, take, drop, slice_index, slice_set}
use Rattle.roman_model.specs.Lists.{product_of}
use Rattle.roman_model.specs.System.{Pair}
use Rattle.roman_model.specs.Numbers.{Sizes, count, grown_sizes, number, pair_at}
use Rattle.roman_model.specs.Change.{grown}
use Rattle.roman_model.specs.declared.limits.TheConstants.{MAX_SERVICES}
use Rattle.roman_radix.specs.Places.{padded}

-- the sizes of a target, an environment and services with these numbers of states
abbrev pub sizes_from : ℕ → ℕ → List ℕ → Sizes
sizes_from target env seats = record { target = target; env = env; seats = seats }

-- each size is at least 1 and fits in a byte
abbrev pub AreSizes : List ℕ → Type 0
AreSizes [] = Unit {0}
AreSizes (size ∷ sizes) = (0 < size) × (size < 2 ^ 8) × AreSizes sizes

-- there are few enough components, each size is in range, and the pairs have numbers of 32 bits
pub record IsSizes (n : Sizes) : Type 0 where
  pub target : (0 < n.target) × (n.target < 2 ^ 8)
  pub env : (0 < n.env) × (n.env < 2 ^ 8)
  pub seats : AreSizes n.seats
  pub few : length n.seats ≤ MAX_SERVICES
  pub counted : count n < 2 ^ 32

-- the table has the sizes of so many components in its first places, and zeros after them
pub record IsSizeTable (components : ℕ) (table : List ℕ) : Type 0 where
  pub few : components ≤ MAX_SERVICES
  pub zeros : table ≡ padded (take components table)
  pub positive : AreSizes (take components table)

-- how much a pair's number grows if the state of component k grows by 1
abbrev pub stride_of : Sizes → ℕ → ℕ
stride_of n k = product_of (drop (k + 1) n.seats)

-- how much a pair's number grows if the environment's state grows by 1
abbrev pub env_stride_of : Sizes → ℕ
env_stride_of n = product_of n.seats

-- how much a pair's number grows if the target's state grows by 1
abbrev pub target_stride_of : Sizes → ℕ
target_stride_of n = n.env * product_of n.seats

-- b is a state of component k
abbrev pub IsPartState : Sizes → ℕ → ℕ → Type 0
IsPartState n k b = b < slice_index n.seats k

-- the pair with component k in another state
abbrev pub with_part : Pair → ℕ → ℕ → Pair
with_part p k b = record { t = p.t; e = p.e; bs = slice_set p.bs k b }

-- the pair with the target, the environment and component k in other states
abbrev pub moved : Pair → ℕ → ℕ → ℕ → ℕ → Pair
moved p t e k b = record { t = t; e = e; bs = slice_set p.bs k b }

-- the number of the pair that pair number p becomes if the target, the environment and component k move to other states
abbrev pub moved_to : Sizes → ℕ → ℕ → ℕ → ℕ → ℕ → ℕ
moved_to n p t e k b = number n (moved (pair_at n p) t e k b)

-- the number of the pair that pair number p becomes if a component of this size joins at the end, in state b
abbrev pub grown_to : Sizes → ℕ → ℕ → ℕ → ℕ
grown_to n p size b = number (grown_sizes n size) (grown (pair_at n p) b)
