-- The state of a session between two lines: all but its removal list.
use Rattle.std.specs.Prelude.{◌≡◌, ℕ, map}
use Rattle.roman_model.specs.Lists.{HasNoRepeats}
use Rattle.roman_model.specs.System.{Pair, IsPair, Allows}
use Rattle.roman_model.specs.Composition.{couple, Serves, GreatCouple, Great}
use Rattle.roman_joint.specs.NamedSys.{NamedSys, system_of}
use Rattle.roman_joint.specs.Names.{seat_name}
use Rattle.roman_library.specs.Library.{PlainLibrary}
use Rattle.roman_start.specs.Starts.{parts_of, start_pair_of}
use Rattle.roman_session.specs.declared.phase.Phase.{Phase}
use Rattle.roman_session.specs.declared.phase.Phase.TheVariants.{Idle, Offered, Delegated}

-- the library with the services now present, the current pair, and the phase with the open request
pub record State : Type 0 where
  pub parts : NamedSys
  pub here : Pair
  pub phase : Phase

-- the state in which a session of the library starts
abbrev pub start_state : PlainLibrary → State
start_state library = record { parts = parts_of library; here = start_pair_of library; phase = Idle }

-- the current pair is related
abbrev pub IsGreat : State → Type 0
IsGreat s = Great (system_of s.parts) s.here

-- the target allows the action at the current pair
abbrev pub MayRequest : State → ℕ → Type 0
MayRequest s a = Allows (system_of s.parts) s.here.t s.here.e a

-- the service at place k serves the action: it can answer each of the target's steps, and all its outcomes are related pairs
abbrev pub ServesHere : State → ℕ → ℕ → Type 0
ServesHere s a k = Serves (system_of s.parts) (GreatCouple (system_of s.parts)) (couple s.here) a k

-- an open request can be served, and its delegate is a service that serves it
abbrev pub IsOpenGreat : State → Phase → Type 0
IsOpenGreat s Idle = Unit {0}
IsOpenGreat s (Offered a) = IsGreat s × MayRequest s a
IsOpenGreat s (Delegated a k) = IsGreat s × MayRequest s a × ServesHere s a k

-- all parts but the services are those of the library; no two services share a name; the pair is one of the system's; an open
-- request can be served
pub record IsState (library : PlainLibrary) (s : State) : Type 0 where
  pub parts : s.parts ≡ record (parts_of library) { seats = s.parts.seats }
  pub names : HasNoRepeats (map seat_name s.parts.seats)
  pub here : IsPair (system_of s.parts) s.here
  pub requested : (a : ℕ) → s.phase ≡ Offered a → IsGreat s × MayRequest s a
  pub delegated : (a k : ℕ) → s.phase ≡ Delegated a k → IsGreat s × MayRequest s a × ServesHere s a k
