-- The laws on settled removal lists.
use Rattle.std.specs.Prelude.{◌≢◌, ℕ, ◌<◌, List, [], IsTrue, IsFalse}
use Rattle.roman_model.specs.Lists.{IsIn}
use Rattle.roman_model.specs.System.{Sys, Pair, IsSys, IsPair}
use Rattle.roman_model.specs.SystemArena.{is_allowed, is_fine, arena}
use Rattle.roman_model.specs.Arena.{Entry, is_listed, mask, IsOrder}
use Rattle.roman_model.specs.CompleteLists.{AreEntries, IsComplete}
use Rattle.roman_model.specs.Numbers.{sizes_of, count, numbered, IsCompleteList}

-- a settled list is complete: a removal list to which no pair can be added
abbrev pub OrderCompletes : Type 0
OrderCompletes = (s : Sys) (L : List (Entry Pair)) → IsSys s → AreEntries s L → IsOrder (arena s) L →
    ((p : Pair) → IsPair s p → IsFalse (is_listed (arena s) L p) → IsTrue (is_fine s p)) →
    ((p : Pair) → IsPair s p → IsFalse (is_listed (arena s) L p) → (a : ℕ) → IsTrue (is_allowed s p a) → mask (arena s) (is_listed (arena s) L) p a ≢ []) →
    IsComplete s L

-- a settled list over the numbers is complete over the pairs
abbrev pub NumberedCompletes : Type 0
NumberedCompletes = (s : Sys) (L : List (Entry ℕ)) → IsSys s →
    ((x : Entry ℕ) → IsIn x L → x.node < count (sizes_of s)) → IsOrder (numbered s) L →
    ((p : ℕ) → p < count (sizes_of s) → IsFalse (is_listed (numbered s) L p) → IsTrue ((numbered s).fine p)) →
    ((p : ℕ) → p < count (sizes_of s) → IsFalse (is_listed (numbered s) L p) → (a : ℕ) → IsTrue ((numbered s).allows p a) →
    mask (numbered s) (is_listed (numbered s) L) p a ≢ []) →
    IsCompleteList s L
