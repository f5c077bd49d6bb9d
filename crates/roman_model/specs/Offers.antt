-- The offers of the orchestrator generator.
use Rattle.std.specs.Prelude.{◌≡◌, ℕ, ◌<◌, Bool, not, ◌↔◌, List, length, IsTrue}
use Rattle.std.specs.List.{filter}
use Rattle.roman_model.specs.Lists.{IsIn}
use Rattle.roman_model.specs.Arena.{Entry, is_listed, mask, loses, choices}
use Rattle.roman_model.specs.System.{Sys, Pair, IsSys, IsPair}
use Rattle.roman_model.specs.SystemArena.{pairs, is_allowed, arena}
use Rattle.roman_model.specs.Composition.{couple, Serves, GreatCouple, Great}
use Rattle.roman_model.specs.CompleteLists.{IsComplete}

-- tests whether the pair is related: whether it isn't lost within as many requests as there are pairs
abbrev pub is_related : Sys → Pair → Bool
is_related s p = not (loses (arena s) (length (pairs s)) p)

-- the seats that serve a with respect to the related pairs, rising
abbrev pub offers : Sys → Pair → ℕ → List ℕ
offers s p a = mask (arena s) (λ q. not (is_related s q)) p a

-- the number of related pairs
abbrev pub related_count : Sys → ℕ
related_count s = length (filter (is_related s) (pairs s))

-- the number of choices: the seats that can serve an action, summed over all pairs and actions, related or not
abbrev pub choice_count : Sys → ℕ
choice_count s = choices (arena s) (λ q. not (is_related s q))

-- `is_related` tests membership in the greatest ND-simulation, and `offers` is the orchestrator generator
pub record OffersServe (s : Sys) : Type 0 where
  pub related : (p : Pair) → IsPair s p → IsTrue (is_related s p) ↔ Great s p
  pub offered : (p : Pair) → IsPair s p → (a : ℕ) → IsTrue (is_allowed s p a) → (k : ℕ) →
      IsIn k (offers s p a) ↔ ((k < length s.seats) × Serves s (GreatCouple s) (couple p) a k)
  pub masked : (L : List (Entry Pair)) → IsComplete s L → (p : Pair) → IsPair s p → (a : ℕ) → mask (arena s) (is_listed (arena s) L) p a ≡ offers s p a

-- the offers are those of the orchestrator generator, and are the masks of each complete removal list
abbrev pub OffersAreGenerator : Type 0
OffersAreGenerator = (s : Sys) → IsSys s → OffersServe s
