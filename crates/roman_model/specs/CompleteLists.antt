-- Removal lists over the pairs of a system, and complete ones.
use Rattle.std.specs.Prelude.{List, IsTrue, ◌↔◌}
use Rattle.roman_model.specs.Lists.{IsIn}
use Rattle.roman_model.specs.Arena.{Entry, is_listed, IsOrder}
use Rattle.roman_model.specs.System.{Sys, Pair, IsPair}
use Rattle.roman_model.specs.SystemArena.{arena}
use Rattle.roman_model.specs.Composition.{Great}

-- each entry is of a pair of the system
abbrev pub AreEntries : Sys → List (Entry Pair) → Type 0
AreEntries s L = (x : Entry Pair) → IsIn x L → IsPair s x.node

-- the list is a removal list that holds exactly the pairs that aren't related
pub record IsComplete (s : Sys) (L : List (Entry Pair)) : Type 0 where
  pub pairs : AreEntries s L
  pub order : IsOrder (arena s) L
  pub exact : (p : Pair) → IsPair s p → IsTrue (is_listed (arena s) L p) ↔ (Great s p → ⊥)
