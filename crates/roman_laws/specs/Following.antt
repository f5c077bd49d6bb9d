-- Runs that follow the offers.
use Rattle.std.specs.Prelude.{◌≢◌, ℕ, List, [], ◌∷◌, IsTrue}
use Rattle.roman_model.specs.Lists.{IsIn}
use Rattle.roman_model.specs.System.{Sys, Pair, IsSys, IsPair}
use Rattle.roman_model.specs.SystemArena.{outcomes, is_allowed, is_fine}
use Rattle.roman_model.specs.Composition.{Great}
use Rattle.roman_model.specs.Offers.{offers}

-- a request, the seat that served it, and the pair to which it led
pub record Choice : Type 0 where
  pub action : ℕ
  pub seat : ℕ
  pub to : Pair

-- each request is allowed at its pair, each seat is offered for it, and each next pair is an outcome
abbrev pub Follows : Sys → Pair → List Choice → Type 0
Follows s p [] = Unit {0}
Follows s p (m ∷ ms) =
    IsTrue (is_allowed s p m.action) × IsIn m.seat (offers s p m.action) × IsIn m.to (outcomes s p m.action m.seat) × Follows s m.to ms

-- the last pair of the run
abbrev pub end_of : Pair → List Choice → Pair
end_of p [] = p
end_of p (m ∷ ms) = end_of m.to ms

-- the pair is related, each allowed action has an offer there, and clause 2 holds
pub record StaysRelated (s : Sys) (q : Pair) : Type 0 where
  pub related : Great s q
  pub offered : (a : ℕ) → IsTrue (is_allowed s q a) → offers s q a ≢ []
  pub final : IsTrue (is_fine s q)

-- each run that starts at a related pair and follows the offers stays at related pairs
abbrev pub FollowingStays : Type 0
FollowingStays = (s : Sys) → IsSys s → (p : Pair) → IsPair s p → Great s p → (ms : List Choice) → Follows s p ms → StaysRelated s (end_of p ms)
