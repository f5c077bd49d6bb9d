-- The greatest part of a removal list that a change can keep: the replay of the renamed list is its longest part that is a removal list.
use Rattle.std.specs.Prelude.{◌≡◌, ℕ, ◌≤◌, List, [], map, length, take}
use Rattle.roman_model.specs.Lists.{IsSublist}
use Rattle.roman_model.specs.System.{Sys, Pair, IsSys}
use Rattle.roman_model.specs.SystemArena.{arena}
use Rattle.roman_model.specs.Arena.{Entry, IsOrder, AreNew, replay}
use Rattle.roman_model.specs.CompleteLists.{AreEntries}
use Rattle.roman_model.specs.Change.{Change, after, rename, CanChange}
use Rattle.roman_model.specs.Numbers.{entry_at}

-- the list is a part of the renamed one, in order, and a removal list of the changed system
pub record CanBeKept (change : Change) (s : Sys) (L : List (Entry Pair)) (M : List (Entry Pair)) : Type 0 where
  pub part : IsSublist M (rename change L)
  pub order : IsOrder (arena (after change s)) M

-- the renamed list has distinct pairs; its replay can be kept, contains each list that can be kept, and is the longest of them
pub record ReplayKeepsMost (change : Change) (s : Sys) (L : List (Entry Pair)) : Type 0 where
  pub new : AreNew (arena (after change s)) [] (rename change L)
  pub kept : CanBeKept change s L (replay (arena (after change s)) (rename change L))
  pub holds : (M : List (Entry Pair)) → CanBeKept change s L M → IsSublist M (replay (arena (after change s)) (rename change L))
  pub longest : (M : List (Entry Pair)) → CanBeKept change s L M → length M ≤ length (replay (arena (after change s)) (rename change L))

-- the replay keeps the most, for every change and every removal list
abbrev pub RepairsKeepTheMost : Type 0
RepairsKeepTheMost = (change : Change) (s : Sys) (L : List (Entry Pair)) → IsSys s → CanChange change s → AreEntries s L → IsOrder (arena s) L → ReplayKeepsMost change s L

-- the first `kept` entries of a new list over numbers contain each part of the old list that can be kept, and no such part is longer
pub record KeepsTheMost (change : Change) (s : Sys) (old new : List (Entry ℕ)) (kept : ℕ) : Type 0 where
  pub holds : (M : List (Entry Pair)) → CanBeKept change s (map (entry_at s) old) M → IsSublist M (take kept (map (entry_at (after change s)) new))
  pub longest : (M : List (Entry Pair)) → CanBeKept change s (map (entry_at s) old) M → length M ≤ kept

-- a new list over numbers keeps the most for every change, if it begins with exactly the replay of the renamed old one
abbrev pub ReplaysKeepTheMost : Type 0
ReplaysKeepTheMost =
    (change : Change) (s : Sys) (old new : List (Entry ℕ)) (kept : ℕ) → IsSys s → CanChange change s → AreEntries s (map (entry_at s) old) → IsOrder (arena s) (map (entry_at s) old) →
    take kept (map (entry_at (after change s)) new) ≡ replay (arena (after change s)) (rename change (map (entry_at s) old)) →
    kept ≡ length (replay (arena (after change s)) (rename change (map (entry_at s) old))) → KeepsTheMost change s old new kept
