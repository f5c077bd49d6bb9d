-- The requests of each of several targets in the system that combines them, and the seats that serve them.
use Rattle.std.specs.Prelude.{◌≡◌, ◌↔◌, ℕ, ◌<◌, List, Some, IsTrue, length, slice_get, slice_index, slice_set}
use Rattle.roman_model.specs.Lists.{IsIn}
use Rattle.roman_model.specs.System.{Beh, Pair, IsPair, TStep, SStep, Allows}
use Rattle.roman_model.specs.SystemArena.{is_allowed}
use Rattle.roman_model.specs.Composition.{couple, Serves, GreatCouple}
use Rattle.roman_model.specs.Offers.{offers}
use Rattle.roman_model.specs.Several.{Several, of_one, ServesAll, GreatAll}
use Rattle.roman_model.specs.Combined.{all_requests, combined, IsSeveral, couple_all}

-- the target at place i allows the action, in its own state
abbrev pub TargetAllows : Several → Pair → ℕ → Beh → ℕ → Type 0
TargetAllows w p i target a = Allows (of_one w target) (slice_index (couple_all w p).ts i) p.e a

-- the combined action n is the request of the target at place i for the action a
pub record IsRequestOf (w : Several) (n i : ℕ) (target : Beh) (a : ℕ) : Type 0 where
  pub request : slice_get (all_requests w) n ≡ Some (record { target = i; action = a })
  pub member : slice_get w.targets i ≡ Some target

-- Each allowed combined action is a request, and each request that its target allows is a combined action. The action is allowed exactly
-- when its target allows it. The offered seats are exactly those that serve it with respect to the couples that are related for all
-- targets.
pub record RequestsAreOf (w : Several) (p : Pair) : Type 0 where
  pub named : (n : ℕ) → IsTrue (is_allowed (combined w) p n) → (i : ℕ) × (target : Beh) × (a : ℕ) × IsRequestOf w n i target a
  pub numbered : (i : ℕ) (target : Beh) (a : ℕ) → slice_get w.targets i ≡ Some target → TargetAllows w p i target a → (n : ℕ) × IsRequestOf w n i target a
  pub allowed : (n i : ℕ) (target : Beh) (a : ℕ) → IsRequestOf w n i target a → IsTrue (is_allowed (combined w) p n) ↔ TargetAllows w p i target a
  pub offered : (n i : ℕ) (target : Beh) (a : ℕ) → IsRequestOf w n i target a → TargetAllows w p i target a → (k : ℕ) →
      IsIn k (offers (combined w) p n) ↔ ((k < length w.seats) × ServesAll w (GreatAll w) (couple_all w p) i target a k)

-- at every pair of the system that combines several targets, the combined actions are the requests of the targets
abbrev pub RequestsOfTargets : Type 0
RequestsOfTargets = (w : Several) → IsSeveral w → (p : Pair) → IsPair (combined w) p → RequestsAreOf w p

-- the combined step is a step of the target at place i by the action, from its state at the pair; no other target moves
pub record IsMoveOf (w : Several) (p : Pair) (i : ℕ) (target : Beh) (a t' e' : ℕ) : Type 0 where
  pub to : ℕ
  pub step : TStep (of_one w target) (slice_index (couple_all w p).ts i) p.e a to e'
  pub states : (couple_all w (record p { t = t' })).ts ≡ slice_set (couple_all w p).ts i to

-- A turn of the combined system, target by target. The allowed actions are the requests that the targets allow. A seat that serves one
-- serves all targets, each step of a seat is one on the plain action, and only the requesting target moves.
pub record TurnsAreOf (w : Several) (p : Pair) : Type 0 where
  pub named : (n : ℕ) → Allows (combined w) p.t p.e n → (i : ℕ) × (target : Beh) × (a : ℕ) × IsRequestOf w n i target a
  pub asked : (n i : ℕ) (target : Beh) (a : ℕ) → IsRequestOf w n i target a → Allows (combined w) p.t p.e n ↔ TargetAllows w p i target a
  pub served : (n i : ℕ) (target : Beh) (a : ℕ) → IsRequestOf w n i target a → (k : ℕ) →
      Serves (combined w) (GreatCouple (combined w)) (couple p) n k ↔ ServesAll w (GreatAll w) (couple_all w p) i target a k
  pub answered : (n i : ℕ) (target : Beh) (a : ℕ) → IsRequestOf w n i target a → (k : ℕ) (bs' : List ℕ) (e' : ℕ) →
      SStep (combined w) p.bs p.e n k bs' e' ↔ SStep (of_one w target) p.bs p.e a k bs' e'
  pub moved : (n i : ℕ) (target : Beh) (a : ℕ) → IsRequestOf w n i target a → (t' e' : ℕ) → TStep (combined w) p.t p.e n t' e' → IsMoveOf w p i target a t' e'

-- at every pair of the system that combines several targets, its turns are turns of the targets
abbrev pub TurnsOfTargets : Type 0
TurnsOfTargets = (w : Several) → IsSeveral w → (p : Pair) → IsPair (combined w) p → TurnsAreOf w p
