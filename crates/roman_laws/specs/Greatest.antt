-- The relation of the greatest ND-simulation to removal lists, depths and replays.
use Rattle.std.specs.Prelude.{ℕ, ◌≤◌, List, [], length, IsTrue, ◌↔◌}
use Rattle.roman_model.specs.Lists.{IsIn, IsSublist}
use Rattle.roman_model.specs.System.{Sys, Pair, IsSys, IsPair}
use Rattle.roman_model.specs.SystemArena.{pairs, arena}
use Rattle.roman_model.specs.Arena.{Entry, IsOrder, AreNew, replay, loses}
use Rattle.roman_model.specs.Composition.{Couple, couple, Meets, IsNdSim, GreatCouple, Great}

-- the related pairs, as couples, meet the three clauses; each ND-simulation is part of them; and a finite one holds exactly the related pairs
pub record GreatestIsSimulation (s : Sys) : Type 0 where
  pub closed : (c : Couple) → GreatCouple s c → Meets s (GreatCouple s) c
  pub holds_each : (R : List Couple) → IsNdSim s R → (c : Couple) → IsIn c R → GreatCouple s c
  pub finite : (R : List Couple) × IsNdSim s R × ((p : Pair) → IsPair s p → Great s p ↔ IsIn (couple p) R)

-- the related pairs are the greatest ND-simulation
abbrev pub GreatestIsGreatest : Type 0
GreatestIsGreatest = (s : Sys) → IsSys s → GreatestIsSimulation s

-- each listed pair is lost: no pair of a removal list is related
abbrev pub OrderRefutes : Type 0
OrderRefutes = (s : Sys) (L : List (Entry Pair)) → IsSys s → IsOrder (arena s) L → (x : Entry Pair) → IsIn x L → IsPair s x.node → Great s x.node → ⊥

-- depth is bounded: a pair is unrelated exactly when it is lost within as many requests as there are pairs
abbrev pub UnrelatedLoses : Type 0
UnrelatedLoses = (s : Sys) → IsSys s → (p : Pair) → IsPair s p →
    (Great s p → ⊥) ↔ ((n : ℕ) × (n ≤ length (pairs s)) × IsTrue (loses (arena s) n p))

-- a replay is a removal list, and keeps each sublist that is a removal list
pub record ReplayIsBest (s : Sys) (L : List (Entry Pair)) : Type 0 where
  pub order : IsOrder (arena s) (replay (arena s) L)
  pub best : (M : List (Entry Pair)) → IsSublist M L → IsOrder (arena s) M → IsSublist M (replay (arena s) L)

-- the replay keeps the most entries
abbrev pub ReplayKeeps : Type 0
ReplayKeeps = (s : Sys) (L : List (Entry Pair)) → AreNew (arena s) [] L → ReplayIsBest s L
