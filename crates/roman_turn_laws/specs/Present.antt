-- The states that sessions of accepted documents reach, and the documents that begin in them.
use Rattle.std.specs.Prelude.{◌≡◌, ◌≤◌, ℕ, List, [], ◌∷◌, Ok}
use Rattle.roman_io.specs.Shelf.{Texts}
use Rattle.roman_model.specs.Numbers.{states_at}
use Rattle.roman_model.specs.Combined.{target_sizes}
use Rattle.roman_multi.specs.Combining.{machines}
use Rattle.roman_multi.specs.declared.parts.Named.{Named}
use Rattle.roman_joint.specs.NamedSys.{system_of, cells}
use Rattle.roman_document_laws.specs.DocumentWriter.{library_value, IsSayable}
use Rattle.roman_document_laws.specs.SeveralWriter.{AreSayable, combined_library, several_value}
use Rattle.roman_library.specs.Documents.{library_in}
use Rattle.roman_library.specs.Library.{PlainLibrary}
use Rattle.roman_library.specs.Targets.{PlainTargets, NamesTargets}
use Rattle.roman_start.specs.Starts.{parts_of}
use Rattle.roman_session.specs.Afresh.{afresh}
use Rattle.roman_session.specs.States.{State, start_state}
use Rattle.roman_top.specs.HeadlineTurns.{Turn, AreTurns, Means, after_turns}

-- the document means the library, and some lines of a session lead from the library's state to this one
pub record IsReached (texts : Texts) (document : List ℕ) (library : PlainLibrary) (s : State) : Type 0 where
  pub means : Means texts document library
  pub lines : List (List ℕ)
  pub turns : List Turn
  pub are : AreTurns library (start_state library) lines turns
  pub now : after_turns (start_state library) turns ≡ s

-- a document can state the library that begins in the state: its written value means that library, which is within its limit, for all texts of a shelf
pub record IsSaidAfresh (s : State) : Type 0 where
  pub sayable : IsSayable (afresh s)
  pub means : (texts : Texts) (document : List ℕ) → library_in texts document (library_value (afresh s)) ≡ Ok (afresh s)
  pub fits : cells (system_of (parts_of (afresh s))) ≤ (afresh s).limit

-- a document can state the library that begins in each state that a session of an accepted document with one target reaches
abbrev pub PresentIsSaid : Type 0
PresentIsSaid =
    (texts : Texts) (document : List ℕ) (library : PlainLibrary) (s : State) → IsReached texts document library s → ((said : PlainTargets) → NamesTargets texts document said → ⊥) → IsSaidAfresh s

-- the targets, each with a starting state of the list
abbrev pub targets_at : List Named → List ℕ → List Named
targets_at [] ts = []
targets_at (x ∷ targets) [] = []
targets_at (x ∷ targets) (t ∷ ts) = record { name = x.name; target = record x.target { beh = record x.target.beh { start = t } } } ∷ targets_at targets ts

-- the parts and targets that the document names, with the starting states of a combined state of the targets and of an environment's state
abbrev pub said_at : PlainTargets → ℕ → ℕ → PlainTargets
said_at said t e = record {
  environment = record said.environment { env = record said.environment.env { start = e } };
  catalogue = said.catalogue;
  targets = targets_at said.targets (states_at (target_sizes (machines said.targets)) t);
}

-- A document can state the targets in the states that the state combines, with the present services. Its written value means the library
-- that begins in the state, which combines these targets and is within its limit, for all texts of a shelf.
pub record AreSaidAfresh (said : PlainTargets) (s : State) : Type 0 where
  pub sayable : AreSayable (said_at said s.here.t s.here.e) (afresh s).services (afresh s).limit
  pub combines : combined_library (said_at said s.here.t s.here.e) (afresh s).services (afresh s).limit ≡ afresh s
  pub means : (texts : Texts) (document : List ℕ) → library_in texts document (several_value (said_at said s.here.t s.here.e) (afresh s).services (afresh s).limit) ≡ Ok (afresh s)
  pub fits : cells (system_of (parts_of (afresh s))) ≤ (afresh s).limit

-- a document can state the targets in each state that a session of an accepted document with several targets reaches
abbrev pub PresentTargetsAreSaid : Type 0
PresentTargetsAreSaid =
    (texts : Texts) (document : List ℕ) (library : PlainLibrary) (s : State) (said : PlainTargets) → IsReached texts document library s → NamesTargets texts document said → AreSaidAfresh said s
