-- The situation of a session between two lines.
use Rattle.std.specs.Prelude.{ℕ, ◌<◌, List, IfSome, IsTrue, slice_get}
use Rattle.roman_model.specs.Lists.{IsIn}
use Rattle.roman_model.specs.System.{Sys, Pair, IsPair}
use Rattle.roman_model.specs.SystemArena.{is_allowed}
use Rattle.roman_model.specs.Arena.{Entry}
use Rattle.roman_model.specs.CompleteLists.{IsComplete}
use Rattle.roman_model.specs.Offers.{is_related, offers}
use Rattle.roman_joint.specs.NamedSys.{NamedSys, IsNamedSys}
use Rattle.roman_joint.specs.NamedSys as joint
use Rattle.roman_session.specs.declared.phase.Phase.{Phase}
use Rattle.roman_session.specs.declared.phase.Phase.TheVariants.{Idle, Offered, Delegated}

-- the library with the services now present; the states of the target, the environment and the services; the phase with the open
-- request; and a removal list
pub record Situation : Type 0 where
  pub parts : NamedSys
  pub here : Pair
  pub phase : Phase
  pub list : List (Entry Pair)

-- the system of the services now present
abbrev pub present_system : Situation → Sys
present_system s = joint.system_of s.parts

-- b is a state of the service at place k, if there is such a service
abbrev pub IsStateAt : Situation → ℕ → ℕ → Type 0
IsStateAt s k b = IfSome (slice_get (present_system s).seats k) (λ seat. b < seat.beh.states)

-- ---- phases

-- the current pair is related, and the target allows the action there
abbrev pub IsOpen : Situation → ℕ → Type 0
IsOpen s a = IsTrue (is_related (present_system s) s.here) × IsTrue (is_allowed (present_system s) s.here a)

-- an open request can be served, and its delegate is offered for it
abbrev pub IsPhase : Situation → Phase → Type 0
IsPhase s Idle = Unit {0}
IsPhase s (Offered a) = IsOpen s a
IsPhase s (Delegated a k) = IsOpen s a × IsIn k (offers (present_system s) s.here a)

-- the situation is well formed, as between any two lines
pub record IsSituation (s : Situation) : Type 0 where
  pub parts : IsNamedSys s.parts
  pub here : IsPair (present_system s) s.here
  pub list : IsComplete (present_system s) s.list
  pub phase : IsPhase s s.phase
