-- The loss of services within a session never helps.
use Rattle.std.specs.Prelude.{◌≡◌, ℕ, List, map, Ok, Some, slice_get}
use Rattle.roman_io.specs.Shelf.{Texts}
use Rattle.roman_laws.specs.Losing.{MayGoAt}
use Rattle.roman_text.specs.Shapes.{freeze, thaw, die}
use Rattle.roman_joint.specs.NamedSys.{system_of}
use Rattle.roman_joint.specs.Names.{seat_name}
use Rattle.roman_library.specs.Library.{PlainLibrary}
use Rattle.roman_session.specs.States.{State, IsGreat}
use Rattle.roman_session.specs.Turns.{TurnsInto}
use Rattle.roman_turn_laws.specs.Present.{IsReached}

-- the service with that name is loose, or in a final state
abbrev pub MayGo : State → List ℕ → Type 0
MayGo s service = (k : ℕ) → slice_get (map seat_name s.parts.seats) k ≡ Some service → MayGoAt (system_of s.parts) s.here k

-- A pair that is related after a freeze was related before it. So was a pair that is related after a death, if the service that died was loose
-- or in a final state. A pair that is related before a thaw is related after it.
pub record LossesNeverHelp (s : State) : Type 0 where
  pub frozen : (service text : List ℕ) (new : State) → TurnsInto s (Ok (freeze service)) text new → IsGreat new → IsGreat s
  pub died : (service text : List ℕ) (new : State) → TurnsInto s (Ok (die service)) text new → MayGo s service → IsGreat new → IsGreat s
  pub thawed : (service text : List ℕ) (new : State) → TurnsInto s (Ok (thaw service)) text new → IsGreat s → IsGreat new

-- the loss of services never helps, in each state that a session of an accepted document reaches
abbrev pub TurnsNeverGain : Type 0
TurnsNeverGain = (texts : Texts) (document : List ℕ) (library : PlainLibrary) (s : State) → IsReached texts document library s → LossesNeverHelp s
