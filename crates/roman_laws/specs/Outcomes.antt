-- The tests and lists of a system, characterised by its steps alone.
use Rattle.std.specs.Prelude.{◌≡◌, ℕ, Some, IsTrue, ◌↔◌, slice_get, slice_index}
use Rattle.roman_model.specs.Lists.{IsIn}
use Rattle.roman_model.specs.System.{Env, Move, Beh, Seat, Sys, Pair, IsSys, IsPair, has_triple, has_move, Allows, is_final, all_final}
use Rattle.roman_model.specs.SystemArena.{outcomes, is_allowed, is_fine}
use Rattle.roman_model.specs.Outcomes.{LeadsTo}

-- the behaviour has a step from b by a to b' with e in its guard
pub record HasStep (beh : Beh) (b e a b' : ℕ) : Type 0 where
  pub step : Move
  pub listed : IsIn step beh.steps
  pub from : step.from ≡ b
  pub action : step.action ≡ a
  pub to : step.to ≡ b'
  pub guard : IsIn e step.guard

-- each seat that rests is in a final state of its behaviour
abbrev pub AllRest : Sys → Pair → Type 0
AllRest s p = (k : ℕ) (seat : Seat) → slice_get s.seats k ≡ Some seat → IsTrue seat.rests → IsTrue (is_final seat.beh (slice_index p.bs k))

-- the pair's allowed actions, outcomes and clause 2, in terms of steps
pub record OutcomesAre (s : Sys) (p : Pair) : Type 0 where
  pub allowed : (a : ℕ) → IsTrue (is_allowed s p a) ↔ Allows s p.t p.e a
  pub reached : (a k : ℕ) (q : Pair) → IsIn q (outcomes s p a k) ↔ LeadsTo s p a k q
  pub fine : IsTrue (is_fine s p) ↔ (IsTrue (is_final s.target p.t) → IsTrue (all_final s.seats p.bs))
  pub rests : IsPair s p → IsTrue (all_final s.seats p.bs) ↔ AllRest s p

-- an action is allowed exactly when a target step by it exists; a pair is an outcome exactly when a target step and a system step lead to it
abbrev pub OutcomesAreSteps : Type 0
OutcomesAreSteps = (s : Sys) (p : Pair) → IsSys s → OutcomesAre s p

-- the tests of triples, steps and final states test membership in their lists
pub record TestsAreMembership : Type 0 where
  pub triple : (env : Env) (e a e' : ℕ) → IsTrue (has_triple env e a e') ↔ IsIn (record { from = e; action = a; to = e' }) env.triples
  pub step : (beh : Beh) (b e a b' : ℕ) → IsTrue (has_move beh b e a b') ↔ HasStep beh b e a b'
  pub final : (beh : Beh) (b : ℕ) → IsTrue (is_final beh b) ↔ IsIn b beh.finals
