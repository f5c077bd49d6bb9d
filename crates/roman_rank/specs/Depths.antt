-- Depths: within how many requests the opponent wins.
use Rattle.std.specs.Prelude.{◌⊎◌, ℕ, ◌≤◌, Option, None, Some}
use Rattle.roman_model.specs.System.{Sys, Pair, IsPair}
use Rattle.roman_model.specs.Composition.{Great}
use Rattle.roman_model.specs.Play.{IsLeast}

-- n is the pair's depth, or None for a related pair
abbrev pub IsDepth : Sys → Pair → Option ℕ → Type 0
IsDepth s p None = Great s p
IsDepth s p (Some n) = IsLeast s p n

-- n is the depth of some pair, and no pair is deeper
pub record IsGreatest (s : Sys) (n : ℕ) : Type 0 where
  pub some : (p : Pair) × IsPair s p × IsLeast s p n
  pub all : (p : Pair) → IsPair s p → Great s p ⊎ ((m : ℕ) × (m ≤ n) × IsLeast s p m)
