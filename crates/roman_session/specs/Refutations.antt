-- Proofs that a pair isn't related, in terms of steps: removal lists, and the opponent who plays by them.
use Rattle.std.specs.Prelude.{◌≡◌, ℕ, zero, suc, ◌<◌, List, [], ◌∷◌, length, Option, None, Some, IsTrue, IsFalse}
use Rattle.roman_model.specs.Lists.{IsIn}
use Rattle.roman_model.specs.System.{Sys, Pair, Allows, is_final, all_final}
use Rattle.roman_model.specs.Arena.{Entry}
use Rattle.roman_model.specs.Outcomes.{LeadsTo}
use Rattle.roman_model.specs.declared.reason.Reason.{Reason}
use Rattle.roman_model.specs.declared.reason.Reason.TheVariants.{Final, Act}

-- seat k has no outcome on the action, or the given pair is one of its outcomes and is gone
abbrev pub MayAnswer : Sys → (Pair → Type 0) → Pair → ℕ → ℕ → Option Pair → Type 0
MayAnswer s Gone p a k None = (q : Pair) → LeadsTo s p a k q → ⊥
MayAnswer s Gone p a k (Some q) = LeadsTo s p a k q × Gone q

-- the pair is lost for the reason: the target is final and the system isn't; or the target allows the request, and each seat has
-- no outcome on it or one that is gone
abbrev pub IsLost : Sys → (Pair → Type 0) → (ℕ → Option Pair) → Pair → Reason → Type 0
IsLost s Gone answers p Final = IsTrue (is_final s.target p.t) × IsFalse (all_final s.seats p.bs)
IsLost s Gone answers p (Act a) = Allows s p.t p.e a × ((k : ℕ) → k < length s.seats → MayAnswer s Gone p a k (answers k))

-- a removal list: its pairs are distinct, and each is lost when the pairs before it are gone
abbrev pub AreLost : Sys → (Entry Pair → ℕ → Option Pair) → List Pair → List (Entry Pair) → Type 0
AreLost s answers before [] = Unit {0}
AreLost s answers before (x ∷ entries) =
    (IsIn x.node before → ⊥) × IsLost s (λ q. IsIn q before) (answers x) x.node x.reason × AreLost s answers (x.node ∷ before) entries

-- the opponent wins from p by at most n entries: if the entry of p is `final`, it has won; otherwise it makes the entry's request,
-- and each seat then has no answer, or may go to a pair from which the opponent wins by one entry fewer
abbrev pub WinsBy : Sys → (Entry Pair → ℕ → Option Pair) → List (Entry Pair) → ℕ → Pair → Type 0
WinsBy s answers entries zero p = ⊥
WinsBy s answers entries (suc n) p =
    (x : Entry Pair) × IsIn x entries × (x.node ≡ p) × IsLost s (WinsBy s answers entries n) (answers x) p x.reason
