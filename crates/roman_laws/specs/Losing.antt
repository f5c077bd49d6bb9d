-- The loss of services never helps: a pair that is related with more of them frozen is related with fewer, and the same holds for deaths of
-- services that may go.
use Rattle.std.specs.Prelude.{◌≡◌, ◌↔◌, ℕ, List, Some, IsTrue, slice_get}
use Rattle.roman_model.specs.Lists.{IsIn}
use Rattle.roman_model.specs.System.{Seat, Sys, Pair, IsSys, IsPair, is_final}
use Rattle.roman_model.specs.Composition.{Great}
use Rattle.roman_model.specs.Change.{after, without, may_go}
use Rattle.roman_model.specs.Change as change
use Rattle.roman_model.specs.Without.{system_without, pair_without}
use Rattle.roman_model.specs.declared.way.Way.{Way}
use Rattle.roman_model.specs.declared.way.Way.TheVariants as way

-- the reduced pair is related if the seats at the places K fail
abbrev pub GreatWithout : Way → Sys → Pair → List ℕ → Type 0
GreatWithout how s p K = Great (system_without how K s) (pair_without how K p)

-- each place of K is in J
abbrev pub AreAmong : List ℕ → List ℕ → Type 0
AreAmong K J = (k : ℕ) → IsIn k K → IsIn k J

-- the seat at place k is loose, or in a final state: it doesn't keep p from being final
abbrev pub MayGoAt : Sys → Pair → ℕ → Type 0
MayGoAt s p k = (seat : Seat) × (slice_get s.seats k ≡ Some seat) × IsTrue (may_go k seat p)

-- A pair that is related with more seats frozen is related with fewer or none, and the same holds for
-- deaths of seats that may go. (A seat that rests outside a final state keeps the pair unrelated, even
-- if it is frozen, and its death may help.) If the target is final, each seat of a related pair may go.
pub record LossNeverHelps (s : Sys) (p : Pair) : Type 0 where
  pub one_frozen : (k : ℕ) → Great (after (change.Freeze k) s) p → Great s p
  pub more_frozen : (K J : List ℕ) → AreAmong K J → GreatWithout way.Freeze s p J → GreatWithout way.Freeze s p K
  pub any_frozen : (K : List ℕ) → GreatWithout way.Freeze s p K → Great s p
  pub one_gone : IsSys s → IsPair s p → (k : ℕ) (seat : Seat) → slice_get s.seats k ≡ Some seat → IsTrue (may_go k seat p) → Great (after (change.Die k seat) s) (without k p) → Great s p
  pub more_gone : IsSys s → IsPair s p → (K J : List ℕ) → AreAmong K J → ((k : ℕ) → IsIn k J → (IsIn k K → ⊥) → MayGoAt s p k) →
      GreatWithout way.Die s p J → GreatWithout way.Die s p K
  pub final_may_go : Great s p → IsTrue (is_final s.target p.t) → (k : ℕ) (seat : Seat) → slice_get s.seats k ≡ Some seat → IsTrue (may_go k seat p)

-- the loss of services never helps, in every system and at every pair
abbrev pub LosingNeverHelps : Type 0
LosingNeverHelps = (s : Sys) (p : Pair) → LossNeverHelps s p

-- each of the seats that leave may go
abbrev pub MayAllGo : Way → Sys → Pair → List ℕ → Type 0
MayAllGo way.Freeze s p K = Unit {0}
MayAllGo way.Die s p K = (k : ℕ) → IsIn k K → MayGoAt s p k

-- the reduced pair is unrelated if these seats fail, and related if only some of them fail
pub record IsLeastFailing (how : Way) (s : Sys) (p : Pair) (M : List ℕ) : Type 0 where
  pub fails : GreatWithout how s p M → ⊥
  pub least : (N : List ℕ) → AreAmong N M → (GreatWithout how s p N → ⊥) → AreAmong M N

-- the reduced pair is unrelated exactly when the seats that fail contain a least failing set
abbrev pub LeastFailingSuffice : Type 0
LeastFailingSuffice =
    (how : Way) (s : Sys) (p : Pair) (K : List ℕ) → IsSys s → IsPair s p → MayAllGo how s p K →
    (GreatWithout how s p K → ⊥) ↔ ((M : List ℕ) × AreAmong M K × IsLeastFailing how s p M)
