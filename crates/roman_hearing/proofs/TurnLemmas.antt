-- Steps are turns, services that aren't offered fail, and open requests are served.
use Rattle.roman_hearing.proofs.Common.{◌≡◌, ℕ, [], IsTrue, arith, not, IsFalse, ◌⊎◌, or_cases, not-true, IsIn, Sys, Pair, arena, outcomes, is_beaten, is_related, from_allowed, related_great, by_test, empty_is, any_true, in_mask, Situation, present_system, IsPhase, IsSituation, Phase, Idle, Offered, Delegated, shown, IsOpenGreat, OpenIsGreat, NotOfferedFails, delegation_serves, Step, StepsAreTurns}

-- Each step of a session is a turn.
pub steps_turns : StepsAreTurns
unfolding Step
steps_turns old new line text step = step.0

-- Services that aren't offered

-- a beaten seat has no outcome, or an outcome whose pair isn't related
beaten_fails : (s : Sys) (p : Pair) (a k : ℕ) → IsTrue (is_beaten (arena s) (λ q. not (is_related s q)) p a k) →
    (outcomes s p a k ≡ []) ⊎ ((q : Pair) × IsIn q (outcomes s p a k) × IsFalse (is_related s q))
beaten_fails s p a k beaten = grind (arith, any_true, empty_is, not-true, or_cases)

pub not_offered_fails : NotOfferedFails
not_offered_fails s p a k l allowed out =
    by_test (is_beaten (arena s) (λ q. not (is_related s q)) p a k) (beaten_fails s p a k)
    (λ unbeaten. absurd (out (in_mask (arena s) (λ q. not (is_related s q)) p a k allowed l unbeaten)))

-- Open requests

open_by : (s : Situation) (phase : Phase) → IsSituation s → IsPhase s phase → IsOpenGreat (shown s) phase
open_by s Idle is is_open = tt
open_by s (Offered a) is is_open = (related_great (present_system s) s.here is.parts.system is.here is_open.0, from_allowed (present_system s) s.here a is_open.1)
open_by s (Delegated a k) is is_open =
    (related_great (present_system s) s.here is.parts.system is.here is_open.0.0, from_allowed (present_system s) s.here a is_open.0.1, delegation_serves s a k is is_open)

-- The greatest ND-simulation serves open requests.
pub open_great : OpenIsGreat
open_great s is = open_by s s.phase is is.phase
