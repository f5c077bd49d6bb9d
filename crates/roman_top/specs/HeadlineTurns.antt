-- Turns of a session, one for each line that is answered, and the texts that they wrote.
use Rattle.std.specs.Prelude.{◌≡◌, ◌≤◌, ◌⊎◌, ℕ, List, [], ◌∷◌, length, take, nat_le, Option, Result, Ok, if◌then◌else◌}
use Rattle.std.specs.List.{flat_map}
use Rattle.roman_io.specs.Shelf.{Texts}
use Rattle.roman_io.specs.Sink.{Wrote}
use Rattle.roman_model.specs.Lines.{lines, ended_lines}
use Rattle.roman_model.specs.declared.limits.TheConstants.{MAX_SESSION_BYTES}
use Rattle.roman_joint.specs.NamedSys.{system_of, cells}
use Rattle.roman_text.specs.Shapes.{LineShape, quit}
use Rattle.roman_text.specs.declared.errors.LineError.{LineError}
use Rattle.roman_library.specs.Documents.{library_of}
use Rattle.roman_library.specs.Library.{PlainLibrary}
use Rattle.roman_start.specs.Starts.{parts_of}
use Rattle.roman_hearing.specs.Events.{Reads}
use Rattle.roman_session.specs.States.{State, start_state, IsState}
use Rattle.roman_session.specs.Turns.{TurnsInto}
use Rattle.roman_top.specs.Command.{Command}
use Rattle.roman_top.specs.Run.{IsSessionText}
use Rattle.roman_top.specs.World.{World}

-- a line that was answered: the state before it, the line and its event, the text, and the state after it
pub record Turn : Type 0 where
  pub before : State
  pub line : List ℕ
  pub event : Result LineShape LineError
  pub text : List ℕ
  pub after : State

-- the lines have their turns, up to the first `quit`: each turn begins in the state to which the one before it led, which is well
-- formed, and leads to the state of the line's event, with the event's answer as its text
abbrev pub AreTurns : PlainLibrary → State → List (List ℕ) → List Turn → Type 0
AreTurns library s [] [] = IsState library s
AreTurns library s [] (x ∷ turns) = ⊥
AreTurns library s (line ∷ others) [] = ⊥
AreTurns library s (line ∷ others) (x ∷ turns) =
    IsState library s × (x.before ≡ s) × (x.line ≡ line) × Reads line x.event × TurnsInto s x.event x.text x.after
    × (((x.event ≡ Ok quit) × IsState library x.after × (turns ≡ [])) ⊎ ((x.event ≡ Ok quit → ⊥) × AreTurns library x.after others turns))

-- the state to which turns lead from a state
abbrev pub after_turns : State → List Turn → State
after_turns s [] = s
after_turns s (x ∷ turns) = after_turns x.after turns

-- the document of that name means the library, which is within its limit
abbrev pub Means : Texts → List ℕ → PlainLibrary → Type 0
Means texts system library = (library_of texts system ≡ Ok library) × (cells (system_of (parts_of library)) ≤ library.limit)

-- the lines of the session have their turns from the library's state on, and the texts of the turns were written; if the session is too
-- long, the lines that end within the limit have their turns
pub record HasAnsweredLines (asked : Option Command) (library : PlainLibrary) (texts : Texts) (old new : World) : Type 0 where
  pub session : List ℕ
  pub given : IsSessionText asked texts old.rest session
  pub turns : List Turn
  pub are : AreTurns library (start_state library) (if nat_le (length session) MAX_SESSION_BYTES then lines session else ended_lines (take MAX_SESSION_BYTES session)) turns
  pub wrote : Wrote old.written new.written (flat_map (λ x. x.text) turns)
