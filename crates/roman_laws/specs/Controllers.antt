-- Controllers that realise the target: they are exactly those that take the offers of the orchestrator generator.
use Rattle.std.specs.Prelude.{◌≡◌, ◌↔◌, ℕ, List, [], ◌∷◌, map, IsTrue}
use Rattle.roman_model.specs.Lists.{IsIn}
use Rattle.roman_model.specs.System.{Sys, Pair, IsSys, IsPair, TStep, SStep, Allows, is_final, all_final}
use Rattle.roman_model.specs.SystemArena.{is_allowed}
use Rattle.roman_model.specs.Composition.{couple, Serves, GreatCouple, Great}
use Rattle.roman_model.specs.Offers.{offers}
use Rattle.roman_model.specs.Outcomes.{LeadsTo}
use Rattle.roman_laws.specs.Following.{Choice, Follows, end_of}

-- a controller: a function from the history, the latest choice first, and the requested action to the seat that is to serve it
abbrev pub Controller : Type 0
Controller = List Choice → ℕ → ℕ

-- the pair at the end of a history that began at p
abbrev pub now_at : Pair → List Choice → Pair
now_at p [] = p
now_at p (m ∷ h) = m.to

-- the history is possible from p on, and the controller chose each seat
abbrev pub IsHistory : Sys → Controller → Pair → List Choice → Type 0
IsHistory s P p [] = Unit {0}
IsHistory s P p (m ∷ h) = IsHistory s P p h × (m.seat ≡ P h m.action) × LeadsTo s (now_at p h) m.action m.seat m.to

-- if the target is final at q, so is the system, and for each target step the chosen seat has a system step into the same environment
-- state
pub record CanGoOn (s : Sys) (choose : ℕ → ℕ) (q : Pair) : Type 0 where
  pub final : IsTrue (is_final s.target q.t) → IsTrue (all_final s.seats q.bs)
  pub served : (a t' e' : ℕ) → TStep s q.t q.e a t' e' → (bs' : List ℕ) × SStep s q.bs q.e a (choose a) bs' e'

-- the controller realises the target from p: after every possible history it can go on
abbrev pub Realises : Sys → Controller → Pair → Type 0
Realises s P p = (h : List Choice) → IsHistory s P p h → CanGoOn s (P h) (now_at p h)

-- after every possible history the controller chooses an offered seat for each allowed action
abbrev pub TakesOffers : Sys → Controller → Pair → Type 0
TakesOffers s P p = (h : List Choice) → IsHistory s P p h → (a : ℕ) → IsTrue (is_allowed s (now_at p h) a) → IsIn (P h a) (offers s (now_at p h) a)

-- after every possible history the controller chooses a seat that serves with respect to the related pairs, for each allowed action
abbrev pub TakesServers : Sys → Controller → Pair → Type 0
TakesServers s P p =
    (h : List Choice) → IsHistory s P p h → (a : ℕ) → Allows s (now_at p h).t (now_at p h).e a → Serves s (GreatCouple s) (couple (now_at p h)) a (P h a)

-- the facts that a controller sees without the target's state: the requested action, the seat that served it, and the next states of the system
pub record Seen : Type 0 where
  pub action : ℕ
  pub seat : ℕ
  pub e : ℕ
  pub bs : List ℕ

-- the visible part of a choice
abbrev pub seen_of : Choice → Seen
seen_of m = record { action = m.action; seat = m.seat; e = m.to.e; bs = m.to.bs }

-- the controller that chooses by the visible part of the history alone
abbrev pub by_seen : (List Seen → ℕ → ℕ) → Controller
by_seen B h a = B (map seen_of h) a

-- the history h followed by these choices
abbrev pub since : List Choice → List Choice → List Choice
since h [] = h
since h (m ∷ ms) = since (m ∷ h) ms

-- The controllers that realise the target from a pair. There is one exactly when the pair is related. They
-- are exactly those that take offers, and they stay at related pairs. For any controller, one of them
-- chooses the same seat wherever that seat is offered. Each run that takes offers is a history of one of
-- them. The visible part of the history is enough for each.
pub record RealisersTakeOffers (s : Sys) (p : Pair) : Type 0 where
  pub some : Great s p ↔ ((P : Controller) × Realises s P p)
  pub takers : (P : Controller) → Realises s P p ↔ (Great s p × TakesOffers s P p)
  pub servers : (P : Controller) → Realises s P p ↔ (Great s p × TakesServers s P p)
  pub stays : (P : Controller) → Realises s P p → (h : List Choice) → IsHistory s P p h → Great s (now_at p h)
  pub wished : Great s p → (W : Controller) →
      (P : Controller) × Realises s P p × ((h : List Choice) (a : ℕ) → IsIn (W h a) (offers s (now_at p h) a) → P h a ≡ W h a)
  pub followed : Great s p → (ms : List Choice) → Follows s p ms →
      (P : Controller) × Realises s P p × IsHistory s P p (since [] ms) × (now_at p (since [] ms) ≡ end_of p ms)
  pub blind : (P : Controller) → Realises s P p →
      (B : List Seen → ℕ → ℕ) × Realises s (by_seen B) p × ((h : List Choice) → IsHistory s P p h → (a : ℕ) → B (map seen_of h) a ≡ P h a)

-- the orchestrator generator yields exactly the controllers that realise the target
abbrev pub ControllersTakeOffers : Type 0
ControllersTakeOffers = (s : Sys) (p : Pair) → IsSys s → IsPair s p → RealisersTakeOffers s p
