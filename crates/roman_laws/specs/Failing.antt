-- Controllers at pairs that aren't related: each can fail within a number of requests that is known beforehand. The history in which it fails
-- is finite, so no assumption on how often outcomes occur excludes it.
use Rattle.std.specs.Prelude.{◌↔◌, ◌⊎◌, ℕ, ◌<◌, ◌≤◌, List, length, IsTrue, IsFalse}
use Rattle.roman_model.specs.System.{Sys, Pair, IsSys, IsPair, SStep, Allows, is_final, all_final}
use Rattle.roman_model.specs.SystemArena.{pairs}
use Rattle.roman_model.specs.Composition.{couple, Great}
use Rattle.roman_model.specs.Play.{HoldsOut, IsLeast}
use Rattle.roman_laws.specs.Following.{Choice}
use Rattle.roman_laws.specs.Controllers.{Controller, now_at, IsHistory, CanGoOn}

-- the target is final, and some seat that rests isn't
abbrev pub FailsToRest : Sys → Pair → Type 0
FailsToRest s q = IsTrue (is_final s.target q.t) × IsFalse (all_final s.seats q.bs)

-- the target allows the action, and the seat has no step by it, whatever the environment's next state is
abbrev pub FailsToServe : Sys → Pair → ℕ → ℕ → Type 0
FailsToServe s q a k = Allows s q.t q.e a × ((bs' : List ℕ) (e' : ℕ) → SStep s q.bs q.e a k bs' e' → ⊥)

-- a possible history of at most n requests in which the controller fails; if it fails to serve a request, that request is one of the n
pub record FailsWithin (s : Sys) (P : Controller) (p : Pair) (n : ℕ) : Type 0 where
  pub history : List Choice
  pub possible : IsHistory s P p history
  pub fails : ((length history ≤ n) × FailsToRest s (now_at p history)) ⊎ ((length history < n) × (a : ℕ) × FailsToServe s (now_at p history) a (P history a))

-- every controller fails within n requests
abbrev pub AllFailWithin : Sys → Pair → ℕ → Type 0
AllFailWithin s p n = (P : Controller) → FailsWithin s P p n

-- A pair is unrelated exactly if one number of requests, at most the number of pairs, is enough for every controller to fail. A controller that
-- fails can't go on. Every controller fails within n requests exactly if no way of delegating holds out against n. So the depth is the least
-- such number: for any smaller one, some controller doesn't fail.
pub record ControllersFail (s : Sys) (p : Pair) : Type 0 where
  pub bound : (Great s p → ⊥) ↔ ((n : ℕ) × (n ≤ length (pairs s)) × AllFailWithin s p n)
  pub stuck : (P : Controller) (n : ℕ) → FailsWithin s P p n → (h : List Choice) × IsHistory s P p h × (length h ≤ n) × (CanGoOn s (P h) (now_at p h) → ⊥)
  pub exact : (n : ℕ) → (HoldsOut s n (couple p) → ⊥) ↔ AllFailWithin s p n
  pub least : (n : ℕ) → IsLeast s p n ↔ (AllFailWithin s p n × ((m : ℕ) → m < n → (P : Controller) × (FailsWithin s P p m → ⊥)))

-- the laws on controllers that fail, at every pair of every system
abbrev pub EveryControllerFails : Type 0
EveryControllerFails = (s : Sys) (p : Pair) → IsSys s → IsPair s p → ControllersFail s p
