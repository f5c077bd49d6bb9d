-- The values of advice: the least worst-case cost of each number of requests at each related pair.
use Rattle.std.specs.Prelude.{◌≡◌, ℕ, suc, ◌<◌, ◌≤◌, ◌*◌, List, map, length, slice_index}
use Rattle.std.specs.List.{filter, flat_map}
use Rattle.roman_model.specs.Lists.{IsIn, below}
use Rattle.roman_model.specs.System.{Sys}
use Rattle.roman_model.specs.Numbers.{sizes_of, count, pair_at}
use Rattle.roman_model.specs.Offers.{is_related}
use Rattle.roman_model.specs.Plans.{Costs, least_at}
use Rattle.roman_cost.specs.declared.limits.TheConstants.{MAX_REQUESTS}

-- the numbers of the related pairs, in rising order
abbrev pub related_pairs : Sys → List ℕ
related_pairs s = filter (λ p. is_related s (pair_at (sizes_of s) p)) (below (count (sizes_of s)))

-- for each number of requests below n, the least worst-case costs at each of the pairs
abbrev pub values_below : Sys → Costs → List ℕ → ℕ → List ℕ
values_below s C pairs n = flat_map (λ h. map (least_at s C h) pairs) (below n)

-- advice: the greatest number of requests, the pairs, and the values for each number of requests from 0 on
pub record AdviceTable : Type 0 where
  pub requests : ℕ
  pub pairs : List ℕ
  pub values : List ℕ

-- the pairs are the related ones, and the values are the least worst-case costs there
pub record Advises (s : Sys) (C : Costs) (table : AdviceTable) : Type 0 where
  pub pairs : table.pairs ≡ related_pairs s
  pub values : table.values ≡ values_below s C table.pairs (suc table.requests)

-- the rank of each of the pairs is its place among them
pub record HavePlaces (pairs ranks : List ℕ) : Type 0 where
  pub within : (p : ℕ) → IsIn p pairs → p < length ranks
  pub below : (p : ℕ) → IsIn p pairs → slice_index ranks p < length pairs
  pub at : (p : ℕ) → IsIn p pairs → slice_index pairs (slice_index ranks p) ≡ p

-- the number of requests is within its limit, the pairs have ranks, and there is one value for each of them and each number of requests
pub record HasRanks (requests : ℕ) (pairs places values : List ℕ) : Type 0 where
  pub few : requests ≤ MAX_REQUESTS
  pub ranks : HavePlaces pairs places
  pub len : length values ≡ suc requests * length pairs
