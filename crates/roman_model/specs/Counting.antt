-- How many pairs of a system have a property.
use Rattle.std.specs.Prelude.{◌≡◌, ◌↔◌, ℕ, List, length}
use Rattle.roman_model.specs.Lists.{IsIn, HasNoRepeats}
use Rattle.roman_model.specs.System.{Sys, Pair, IsPair}

-- n is the number of pairs of the system that have the property
pub record Counts (s : Sys) (IsAsSaid : Pair → Type 0) (n : ℕ) : Type 0 where
  pub pairs : List Pair
  pub once : HasNoRepeats pairs
  pub each : (p : Pair) → IsIn p pairs ↔ (IsPair s p × IsAsSaid p)
  pub count : length pairs ≡ n
