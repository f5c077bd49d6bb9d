-- Completeness: the conditions under which a command is answered.
use Rattle.std.specs.Prelude.{◌≡◌, ◌≢◌, ℕ, List, Option, None, Some, IsTrue}
use Rattle.roman_io.specs.Faults.{Rose}
use Rattle.roman_io.specs.Shelf.{Texts, shelf_text}
use Rattle.roman_model.specs.Numbers.{sizes_of, number, numbered}
use Rattle.roman_model.specs.Certificate.{TooLong, cert_verdict}
use Rattle.roman_library.specs.Library.{PlainLibrary}
use Rattle.roman_start.specs.Starts.{start_pair_of}
use Rattle.roman_hearing.specs.Hearing.{is_heard_out}
use Rattle.roman_opening.specs.Opening.{Accepted, document_opening, library_system}
use Rattle.roman_opening.specs.declared.status.Status.TheVariants as status
use Rattle.roman_opening.specs.declared.status.Status.{Status}
use Rattle.roman_top.specs.Command.{Job, Synth, Run, Certify, Check, Shortest, Advise, Resilience, Command, On, Make}
use Rattle.roman_top.specs.AdviseText.{Affords}
use Rattle.roman_top.specs.Run.{WithTexts}
use Rattle.roman_top.specs.World.{World}

-- the bytes of the session are known, and they are at most 16,777,216, or a line `quit` ends within that many bytes
abbrev pub IsShort : Option (List ℕ) → Type 0
IsShort None = ⊥
IsShort (Some session) = IsTrue (is_heard_out session)

-- the certificate isn't too long for the system of that library
abbrev pub IsShortFor : PlainLibrary → List ℕ → Type 0
IsShortFor library certificate =
    let s = library_system library in
    cert_verdict (numbered s) (number (sizes_of s) (start_pair_of library)) certificate ≢ TooLong

-- the conditions of a job on its library
abbrev pub Suffices : Job → Texts → Option (List ℕ) → PlainLibrary → Type 0
Suffices Synth texts rest library = Unit {0}
Suffices (Run None) texts rest library = IsShort rest
Suffices (Run (Some name)) texts rest library = IsTrue (is_heard_out (shelf_text texts name))
Suffices Certify texts rest library = Unit {0}
Suffices (Check certificate) texts rest library = IsShortFor library (shelf_text texts certificate)
Suffices Shortest texts rest library = Unit {0}
Suffices (Advise costs requests) texts rest library = Affords costs requests texts library
Suffices Resilience texts rest library = Unit {0}

-- the conditions of a command: if they hold, only a fault or running out of memory keeps it from its answer
abbrev pub CanAnswer : Option Command → Texts → Option (List ℕ) → Type 0
CanAnswer None texts rest = ⊥
CanAnswer (Some (On system job)) texts rest = (library : PlainLibrary) × (document_opening texts system ≡ Accepted library) × Suffices job texts rest library
CanAnswer (Some (Make n)) texts rest = Unit {0}

-- the command was answered, or it ran out of memory
abbrev pub IsAnswered : Status → Type 0
IsAnswered status.Done = Unit {0}
IsAnswered status.No = Unit {0}
IsAnswered status.Memory = Unit {0}
IsAnswered _ = ⊥

-- no count of faults rose
pub record IsUndisturbed (old new : World) : Type 0 where
  pub shelf : Rose old.shelf_faults new.shelf_faults → ⊥
  pub input : Rose old.input_faults new.input_faults → ⊥
  pub out : Rose old.out_faults new.out_faults → ⊥

-- if no count of faults rises, a command whose conditions hold is answered or runs out of memory
abbrev pub AnswersWherePossible : Option Command → World → World → Status → Type 0
AnswersWherePossible asked old new result = IsUndisturbed old new → WithTexts asked old.texts (λ texts. CanAnswer asked texts old.rest → IsAnswered result)
