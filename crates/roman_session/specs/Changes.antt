-- Changes of a present service: `freeze`, `thaw` and `die`.
use Rattle.std.specs.Prelude.{ℕ, true, false, List, Option, IsTrue, IsFalse}
use Rattle.std.specs.List.{remove}
use Rattle.roman_model.specs.Change as model
use Rattle.roman_model.specs.System.{Seat}
use Rattle.roman_model.specs.SystemArena.{is_ready}
use Rattle.roman_joint.specs.Changes.{with_frozen}
use Rattle.roman_joint.specs.declared.seat.Seat.{Seat as Service}
use Rattle.roman_text.specs.Shapes.{LineShape, freeze, thaw, die}
use Rattle.roman_session.specs.States.{State}
use Rattle.roman_session.specs.Words.{IsReady}
use Rattle.roman_session.specs.declared.events.ServiceChange.{ServiceChange}
use Rattle.roman_session.specs.declared.events.ServiceChange.TheVariants.{Freeze, Thaw, Die}

-- the event that changes the service of that name
abbrev pub event_of : ServiceChange → List ℕ → LineShape
event_of Freeze service = freeze service
event_of Thaw service = thaw service
event_of Die service = die service

-- the change of the system, if this seat is at place k
abbrev pub change_at : ServiceChange → ℕ → Seat → model.Change
change_at Freeze k seat = model.Freeze k
change_at Thaw k seat = model.Thaw k
change_at Die k seat = model.Die k seat

-- the services after the change
abbrev pub services_after : ServiceChange → List Service → ℕ → List Service
services_after Freeze seats k = with_frozen seats k true
services_after Thaw seats k = with_frozen seats k false
services_after Die seats k = remove seats k

-- the states of the services after the change
abbrev pub states_after : ServiceChange → List ℕ → ℕ → List ℕ
states_after Freeze bs k = bs
states_after Thaw bs k = bs
states_after Die bs k = remove bs k

-- a ready service can freeze, one that isn't ready can thaw, and each can die
abbrev pub Suits : ServiceChange → State → ℕ → Type 0
Suits Freeze s k = IsReady s k
Suits Thaw s k = IsReady s k → ⊥
Suits Die s k = Unit {0}

-- the relation's test of this condition, for the seat at a place
abbrev pub SuitsSeat : ServiceChange → Option Seat → Type 0
SuitsSeat Freeze seat = IsTrue (is_ready seat)
SuitsSeat Thaw seat = IsFalse (is_ready seat)
SuitsSeat Die seat = Unit {0}
