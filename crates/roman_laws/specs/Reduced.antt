-- A system without some of its seats is well formed, the reduced pair is a pair of it, and the outlook states whether that pair is related.
use Rattle.std.specs.Prelude.{◌↔◌, ℕ, List, IsTrue}
use Rattle.roman_model.specs.System.{Sys, Pair, IsSys, IsPair}
use Rattle.roman_model.specs.Composition.{Great}
use Rattle.roman_model.specs.Without.{system_without, pair_without, outlook}
use Rattle.roman_model.specs.declared.way.Way.{Way}

-- the system and the pair without the seats at the places K are well formed, and the outlook states whether the pair is related
pub record IsReduced (how : Way) (K : List ℕ) (s : Sys) (p : Pair) : Type 0 where
  pub system : IsSys (system_without how K s)
  pub pair : IsPair (system_without how K s) (pair_without how K p)
  pub composes : IsTrue (outlook (system_without how K s) (pair_without how K p)).composes ↔ Great (system_without how K s) (pair_without how K p)

-- for all seats that fail and both ways of failing, the reduced system and the reduced pair are well formed
abbrev pub ReducedAreSystems : Type 0
ReducedAreSystems = (how : Way) (K : List ℕ) (s : Sys) (p : Pair) → IsSys s → IsPair s p → IsReduced how K s p
