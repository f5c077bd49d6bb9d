-- Sessions of documents with several targets: a related pair serves all of them.
use Rattle.std.specs.Prelude.{◌≡◌, ◌↔◌, ℕ, List, map, Ok}
use Rattle.roman_io.specs.Shelf.{Texts}
use Rattle.roman_model.specs.System.{Pair, IsPair}
use Rattle.roman_model.specs.Composition.{Great}
use Rattle.roman_model.specs.Several.{Several, GreatAll}
use Rattle.roman_model.specs.Combined.{combined, couple_all, IsSeveral}
use Rattle.roman_joint.specs.NamedSys.{NamedSys, seat_of, system_of}
use Rattle.roman_joint.specs.declared.seat.Seat.{Seat}
use Rattle.roman_multi.specs.Combining.{machines}
use Rattle.roman_library.specs.Documents.{library_of}
use Rattle.roman_library.specs.Library.{PlainLibrary}
use Rattle.roman_library.specs.Targets.{PlainTargets, NamesTargets}
use Rattle.roman_session.specs.Situations.{Situation, IsSituation}
use Rattle.roman_session.specs.Starts.{IsStart}
use Rattle.roman_hearing.specs.Told.{Told}

-- the targets over the plain actions of the document, with these services
abbrev pub several_with : PlainTargets → List Seat → Several
several_with said seats = record { env = said.environment.env; targets = machines said.targets; seats = map (seat_of said.catalogue) seats }

-- the targets and services are in range, the system of the parts is the combined system, and a pair of it is related exactly when it
-- belongs to some simulation of all targets
pub record MeansAll (said : PlainTargets) (parts : NamedSys) : Type 0 where
  pub known : IsSeveral (several_with said parts.seats)
  pub system : system_of parts ≡ combined (several_with said parts.seats)
  pub great : (p : Pair) → IsPair (system_of parts) p → Great (system_of parts) p ↔ GreatAll (several_with said parts.seats) (couple_all (several_with said parts.seats) p)

-- this holds in every session of an accepted document with several targets, after any lines
abbrev pub SeveralAreServed : Type 0
SeveralAreServed =
    (texts : Texts) (document : List ℕ) (library : PlainLibrary) (said : PlainTargets) (start now : Situation) (lines : List (List ℕ)) (text : List ℕ) →
    library_of texts document ≡ Ok library → NamesTargets texts document said → IsStart library start → IsSituation start → Told start lines text now → MeansAll said now.parts
