-- Tables of depths: a depth for each pair, in the order of the pairs' numbers. The greatest number of 32 bits means that a pair has no depth.
use Rattle.std.specs.Prelude.{◌≡◌, ◌≢◌, ◌⊎◌, ℕ, zero, suc, ◌+◌, ◌-◌, max, ◌^◌, ◌<◌, ◌≤◌, ◌==◌, Bool, false, List, Option, None, Some, length, slice_index, count_by, IsTrue, IsFalse, if◌then◌else◌}
use Rattle.roman_model.specs.System.{Sys, IsSys}
use Rattle.roman_model.specs.Arena.{Arena, Entry, is_listed, loses}
use Rattle.roman_model.specs.Numbers.{sizes_of, count, pair_at}
use Rattle.roman_order.specs.Board.{nodes_of}
use Rattle.roman_rank.specs.Depths.{IsDepth}

-- the depth of a pair in the table
abbrev pub depth_in : List ℕ → ℕ → Option ℕ
depth_in table p = if slice_index table p == 2 ^ 32 - 1 then None else Some (slice_index table p)

-- the table has the depth of each pair of the system
pub record AreDepths (s : Sys) (table : List ℕ) : Type 0 where
  pub system : IsSys s
  pub long : length table ≡ count (sizes_of s)
  pub each : (p : ℕ) → p < count (sizes_of s) → IsDepth s (pair_at (sizes_of s) p) (depth_in table p)

-- each count is how often its depth occurs in the table, up to the greatest depth there
pub record AreCounts (table counts : List ℕ) : Type 0 where
  pub each : (n : ℕ) → n < 2 ^ 32 - 1 → slice_index counts n ≡ count_by (λ d. d == n) table
  pub within : length counts < 2 ^ 32
  pub last : 0 < length counts → 0 < slice_index counts (length counts - 1)

-- the count of a depth has grown by one
pub record HasOneMore (depth : ℕ) (old new : List ℕ) : Type 0 where
  pub one : slice_index new depth ≡ slice_index old depth + 1
  pub others : (n : ℕ) → n ≢ depth → slice_index new n ≡ slice_index old n
  pub long : length new ≡ max (length old) (depth + 1)

-- the table has only numbers of 32 bits, and counts are their counts
pub record IsRanking (table counts : List ℕ) : Type 0 where
  pub few : length table < 2 ^ 32 - 1
  pub small : (p : ℕ) → slice_index table p < 2 ^ 32
  pub counted : AreCounts table counts

-- ---- over any arena

-- d is the least number of requests within which the opponent wins at p, or the greatest number if the opponent never wins
abbrev pub IsRank : Arena ℕ → ℕ → ℕ → Type 0
IsRank A p d =
    ((d < 2 ^ 32 - 1) × IsTrue (loses A d p) × ((m : ℕ) → m < d → IsFalse (loses A m p)))
    ⊎ ((d ≡ 2 ^ 32 - 1) × ((n : ℕ) → IsFalse (loses A n p)))

-- the table has the rank of each node
pub record AreRanks (A : Arena ℕ) (table : List ℕ) : Type 0 where
  pub long : length table ≡ length A.nodes
  pub each : (p : ℕ) → p < length A.nodes → IsRank A p (slice_index table p)

-- the opponent wins at p within fewer than n requests
abbrev pub loses_before : Arena ℕ → ℕ → ℕ → Bool
loses_before A zero p = false
loses_before A (suc n) p = loses A n p

-- the table has the rank of each node at which the opponent wins within fewer than n requests, and no rank of the others
pub record AreRanksBelow (A : Arena ℕ) (n : ℕ) (table : List ℕ) : Type 0 where
  pub long : length table ≡ length A.nodes
  pub lost : (p : ℕ) → p < length A.nodes → IsTrue (loses_before A n p) → (slice_index table p < n) × IsRank A p (slice_index table p)
  pub others : (p : ℕ) → p < length A.nodes → IsFalse (loses_before A n p) → slice_index table p ≡ 2 ^ 32 - 1

-- the nodes of the list's entries from start up to end have the number n, and the others are unchanged
pub record GivesLevel (L : List (Entry ℕ)) (start end n : ℕ) (old new : List ℕ) : Type 0 where
  pub given : (i : ℕ) → start ≤ i → i < end → slice_index new (slice_index (nodes_of L) i) ≡ n
  pub others : (p : ℕ) → ((i : ℕ) → start ≤ i → i < end → slice_index (nodes_of L) i ≢ p) → slice_index new p ≡ slice_index old p

-- the list has each node at which the opponent ever wins
pub record HoldsAllLost (A : Arena ℕ) (L : List (Entry ℕ)) : Type 0 where
  pub each : (p : ℕ) → p < length A.nodes → (n : ℕ) → IsTrue (loses A n p) → IsTrue (is_listed A L p)

-- the arena has so few nodes that each depth is less than the number that means no depth
abbrev pub HasFewNodes : Arena ℕ → Type 0
HasFewNodes A = length A.nodes < 2 ^ 32 - 1
